-- Stored trees stay stored, with all below them; what simplifying or substituting gives is stored then. Assumes nothing.
use mathlib.Core.Path.{◌≡◌, refl, sym, ◌∙◌, subst}
use mathlib.Core.Bool.{Bool, true, false, cond, ◌&&◌}
use mathlib.Core.List.{List, [], ◌∷◌, ◌++◌}
use mathlib.Core.Logic.{⊎_elim}
use Prim.Native.Nat.{ℕ, suc, ◌≤◌, ◌<◌}
use native.Mathlib.Nat.{eq-or-lt_of_le}
use native.Mathlib.Omega.{arith}
use native.Mathlib.Decide.{dec_lt}
use borrow.Author.Tests.{ltb-false, ltb-true}
use lib.Dec.{ltb, eqb}
use lib.ListN.{length, get_or, length-append, get_or-append}
use lib.Seq.{get_or_at}
use Rattle.complex.specs.declared.Complex.{Complex}
use Rattle.complex.specs.Bits.{Fitting}
use Rattle.complex.specs.Constants.{zero_number}
use Rattle.complex.specs.Equality as Equality
use Rattle.complex.proofs.Pairs.{of_parts_fitting, plus_fitting, minus_fitting, times_fitting, over_fitting, negated_fitting}
use Rattle.expression.specs.declared.InfixOperator.{InfixOperator}
use Rattle.expression.specs.declared.ExpressionFunction.{ExpressionFunction}
use Rattle.expression.specs.declared.refusal.Operation.{Operation}
use Rattle.expression.specs.Trees.{Tree, Leaf, number, pi, variable, cell, leaf, function_call, prefixed, infixed, size, depth}
use Rattle.expression.specs.Alike.{identical, equal}
use Rattle.expression.specs.Codes.{operation_code}
use Rattle.expression.specs.Limits.{Limited, Proper, ProperLeaf, largest, deepest}
use Rattle.expression.proofs.Likeness.{identical_same}
use Rattle.store.specs.Storing.{result, State, state, Answer, among, place, intern, recall, keep, noting}
use Rattle.store.proofs.Places.{place_within, place_hit, among_no}
use Rattle.sheet.specs.Rows.{Rows, Row, row, Lookup, found, missing, function_value}
use Rattle.evaluation.specs.declared.Evaluation.{Evaluation}
use Rattle.evaluation.specs.Evaluating as Evaluating
use Rattle.evaluation.specs.Evaluating.{given, asked, asked_one, cis, calculate_function, calculate_infix}
use Rattle.simplification.specs.Simplifying.{counted}
use Rattle.simplification.proofs.Shapes.{Closed}
use Rattle.simplification.proofs.Stored.{Got, Given, got, then_given, Gives, Numbers, Lasting}
use Rattle.listing.specs.Listings as Listings
use Rattle.listing.specs.Listings.{Swap, swap, Named, names, swap_for}
use Rattle.substitution.specs.Substituting.{put_in, put_in_leaf, substitute}
use Rattle.writing.specs.Ordering.{AllIn}
use Rattle.writing.specs.Order.{order}
use Rattle.writing.proofs.Orders.{true_not_false, among_last, all_is, all_more}
use Rattle.writing.proofs.Fits.{order_among}

-- ---- each of a list

abbrev pub Each : {A : Type 0} → (A → Type 0) → (other : A) → List A → Type 0
Each P other xs = (k : ℕ) → k < length xs → P (get_or xs k other)

pub each_more : {A : Type 0} (P : A → Type 0) (other : A) (xs : List A) (x : A) → Each P other xs → P x → Each P other (xs ++ (x ∷ []))
each_more P other xs x f p k l = elim (dec_lt k (length xs)) [
  | yes y ↦ rw (get_or-append xs (x ∷ []) other k y) (f k y)
  | no n ↦ let z : k ≡ length xs = omega (arith, length-append xs (x ∷ [])) in rw (z, get_or_at xs x [] other (length xs) refl) p
]

-- ---- stored trees

-- a tree stands among some with all below it, and its leaves are such as a text can say
pub record In (ts : List Tree) (t : Tree) : Type 0 where
  pub all : AllIn ts t
  pub proper : Proper t

-- a tree whose operands do
unfoldable pub New : List Tree → Tree → Type 0
New ts (leaf l) = ProperLeaf l
New ts (function_call f t) = In ts t
New ts (prefixed o t) = In ts t
New ts (infixed o l r) = In ts l × In ts r

new_stays : {ts us : List Tree} → ((u : Tree) → In ts u → In us u) → (t : Tree) → New ts t → New us t
unfolding New
new_stays f (leaf l) x = x
new_stays f (function_call g t) x = f t x
new_stays f (prefixed o t) x = f t x
new_stays f (infixed o l r) x = (f l x.0, f r x.1)

new_in : (ts : List Tree) (t : Tree) → New ts t → among ts t ≡ true → In ts t
unfolding New
new_in ts (leaf l) x e = record { all = e; proper = x }
new_in ts (function_call f t) x e = record { all = (e, x.all); proper = x.proper }
new_in ts (prefixed o t) x e = record { all = (e, x.all); proper = x.proper }
new_in ts (infixed o l r) x e = record { all = (e, (x.0.all, x.1.all)); proper = (x.0.proper, x.1.proper) }

pub record Good (t : Tree) : Type 0 where
  pub limited : Limited t
  pub proper : Proper t

unfoldable pub stored_in : State → List Tree
stored_in (state room ts kept tally) = ts

unfoldable pub room_in : State → ℕ
room_in (state room ts kept tally) = room

abbrev pub StoredIn : State → Tree → Type 0
StoredIn s t = In (stored_in s) t

-- a store with room for so many trees
pub record Sane (room : ℕ) (s : State) : Type 0 where
  pub roomy : room_in s ≡ room
  pub few : length (stored_in s) ≤ room
  pub good : Each Good (leaf pi) (stored_in s)
  pub kept : (t u : Tree) → recall t s ≡ result u → StoredIn s u

-- what is stored there is within 01's limits, and its written listing has at most as many lines as there is room for
module _ {room : ℕ} {s : State} {t : Tree} (g : Sane room s) (i : StoredIn s t) where
  pub limited : Limited t
  limited =
      let ts = stored_in s in
      let k = place (identical t) ts in
      let inside : k < length ts =
      ⊎_elim (λ z. true_not_false (sym (all_is ts t i.all) ∙ among_no ts t z)) (λ l. l) (eq-or-lt_of_le (place_within (identical t) ts)) in
      let good = g.good k inside in
      subst Limited (sym (identical_same t (get_or ts k (leaf pi)) i.proper good.proper (place_hit (identical t) ts inside))) good.limited

  pub short : length (order t) ≤ room
  short = omega (arith, order_among (stored_in s) t i.all i.proper limited, g.few)

-- ---- storing, and what simplifying rests on

module _ (room : ℕ) where
  abbrev pub GivenIn : State → Answer → Type 0
  GivenIn = Given (Sane room) StoredIn

  either_way : (s : State) (b : Bool) (x y : Answer) → (b ≡ true → GivenIn s x) → (b ≡ false → GivenIn s y) → GivenIn s (cond b x y)
  either_way s true x y p q = p refl
  either_way s false x y p q = q refl

  pub stores : (t : Tree) (s : State) → Sane room s → New (stored_in s) t → GivenIn s (intern t s)
  unfolding Given intern stored_in room_in recall
  stores t (state r ts kept tally) g x =
      let more : (u : Tree) → In ts u → In (ts ++ (t ∷ [])) u = λ u i. record { all = all_more ts (t ∷ []) u i.all; proper = i.proper } in
      let last = new_in (ts ++ (t ∷ [])) t (new_stays more t x) (among_last ts t) in
      either_way _ (among ts t) _ _ (λ e. got (Sane room) StoredIn g (new_in ts t x e)) λ _.
      either_way _ (ltb largest (size t)) _ _ (λ _. tt) λ small.
      either_way _ (ltb deepest (depth t)) _ _ (λ _. tt) λ shallow.
      let limited : Limited t = record { sized = ltb-false largest (size t) small; shallow = ltb-false deepest (depth t) shallow } in
      either_way _ (ltb (length ts) r) _ _ (λ free. record {
        sane = record {
          roomy = g.roomy;
          few = omega (arith, length-append ts (t ∷ []), ltb-true (length ts) r free, g.roomy);
          good = each_more Good (leaf pi) ts t g.good (record { limited = limited; proper = last.proper });
          kept = λ v u e. more u (g.kept v u e);
        };
        is_in = last;
        stay = more;
      }) λ _. tt

  keeps : (t u : Tree) (s : State) → Sane room s → StoredIn s u → Got (Sane room) StoredIn s (keep t u s) u
  unfolding keep stored_in room_in recall
  keeps t u (state r ts kept tally) g i = record {
    sane = record { roomy = g.roomy; few = g.few; good = g.good; kept = λ v w e. go v w (equal t v) e };
    is_in = i;
    stay = λ v x. x;
  }
    where
      go : (v w : Tree) (b : Bool) → cond b (result u) (kept v) ≡ result w → In ts w
      go v w true e = let same : u ≡ w = cc in subst (In ts) same i
      go v w false e = g.kept v w e

  counts : (more : ℕ → ℕ) (t : Tree) (s : State) → Sane room s → StoredIn s t → Got (Sane room) StoredIn s (counted more s) t
  unfolding counted stored_in room_in recall
  counts more t (state r ts kept tally) g i = record {
    sane = record { roomy = g.roomy; few = g.few; good = g.good; kept = g.kept };
    is_in = i;
    stay = λ v x. x;
  }

  notes : (js : List ℕ) (s : State) → Sane room s → Sane room (noting js s) × ((u : Tree) → StoredIn s u → StoredIn (noting js s) u)
  unfolding noting stored_in room_in recall
  notes js (state r ts kept tally) g = (record { roomy = g.roomy; few = g.few; good = g.good; kept = g.kept }, λ u x. x)

  closed : (ts : List Tree) → Closed (In ts) (New ts)
  unfolding New
  closed ts = record {
    numeral = of_parts_fitting;
    opposite = λ {z} i. negated_fitting z i.proper;
    call = λ f i. i;
    minus_of = λ i. i;
    infix_of = λ op i j. (i, j);
    call_part = λ i. record { all = i.all.1; proper = i.proper };
    prefix_part = λ i. record { all = i.all.1; proper = i.proper };
    infix_parts = λ i. (record { all = i.all.1.0; proper = i.proper.0 }, record { all = i.all.1.1; proper = i.proper.1 });
  }

  pub lasting : Lasting (Sane room) StoredIn (λ s. New (stored_in s)) Fitting
  unfolding New
  lasting = record {
    closed = λ s. closed (stored_in s);
    value = λ s z f. f;
    remain = new_stays;
    stores = stores;
    recalls = λ t u s g. g.kept t u;
    keeps = keeps;
    counts = counts;
    notes = notes;
  }

-- ---- substituting

unfoldable pub tree_of : Swap → Tree
tree_of (swap v t) = t

-- the trees that s lines name are stored
abbrev pub SwapsIn : List Tree → List Swap → Type 0
SwapsIn ts swaps = Each (λ w. In ts (tree_of w)) (swap 0 (leaf pi)) swaps

NamedIn : List Tree → Named → Type 0
NamedIn ts (names t) = In ts t
NamedIn ts Listings.nothing = Unit {0}

swap_in : (ts : List Tree) (swaps : List Swap) → SwapsIn ts swaps → (v : ℕ) → NamedIn ts (swap_for v swaps)
unfolding swap_for NamedIn tree_of
swap_in ts [] f v = tt
swap_in ts (swap v' t ∷ ss) f v = go (eqb v v') (swap_in ts ss (λ k l. f (suc k) (omega (arith, l))) v)
  where
    go : (b : Bool) → NamedIn ts (swap_for v ss) → NamedIn ts (cond b (names t) (swap_for v ss))
    go true x = f 0 (omega arith)
    go false x = x

module _ (room : ℕ) (swaps : List Swap) where
  leaf_in : (l : Leaf) (ts : List Tree) → SwapsIn ts swaps → In ts (leaf l) → In ts (put_in_leaf swaps l)
  unfolding put_in_leaf put_in NamedIn
  leaf_in (number z) ts f i = i
  leaf_in pi ts f i = i
  leaf_in (cell region index) ts f i = i
  leaf_in (variable v) ts f i = go (swap_for v swaps) (swap_in ts swaps f v)
    where
      go : (n : Named) → NamedIn ts n → In ts (put_in v n)
      go (names t) x = x
      go Listings.nothing x = i

  pub substituted_is_in : (t : Tree) (s : State) → Sane room s → SwapsIn (stored_in s) swaps → StoredIn s t → GivenIn room s (substitute swaps t s)
  unfolding substitute Given New
  substituted_is_in (leaf l) s g f i = got (Sane room) StoredIn g (leaf_in l (stored_in s) f i)
  substituted_is_in (function_call k t) s g f i =
      then_given (Sane room) StoredIn s (substitute swaps t s) _ (substituted_is_in t s g f ((closed room (stored_in s)).call_part i)) λ u s' y.
      stores room (function_call k u) s' y.sane y.is_in
  substituted_is_in (prefixed o t) s g f i =
      then_given (Sane room) StoredIn s (substitute swaps t s) _ (substituted_is_in t s g f ((closed room (stored_in s)).prefix_part i)) λ u s' y.
      stores room (prefixed o u) s' y.sane y.is_in
  substituted_is_in (infixed o l r) s g f i =
      let parts = (closed room (stored_in s)).infix_parts i in
      then_given (Sane room) StoredIn s (substitute swaps l s) _ (substituted_is_in l s g f parts.0) λ u s' y.
      then_given (Sane room) StoredIn s' (substitute swaps r s') _
      (substituted_is_in r s' y.sane (λ k z. y.stay _ (f k z)) (y.stay r parts.1)) λ v s'' z.
      stores room (infixed o u v) s'' z.sane (z.stay u y.is_in, z.is_in)

-- ---- the numbers that operations give

unfoldable pub value_of : Row → Complex
value_of (row operation x y z) = z

-- the values of the t rows are pairs of doubles
abbrev pub FittingRows : List Row → Type 0
FittingRows rs = Each (λ r. Fitting (value_of r)) (row Operation.Sine zero_number zero_number zero_number) rs

FittingLookup : Lookup → Type 0
FittingLookup (found z) = Fitting z
FittingLookup missing = Unit {0}

module _ (R : Rows) (fit : FittingRows R.functions) where
  looked_up : (operation : Operation) (x y : Complex) (rs : List Row) → FittingRows rs → FittingLookup (function_value operation x y rs)
  unfolding function_value FittingLookup value_of
  looked_up operation x y [] f = tt
  looked_up operation x y (row o' x' y' z ∷ rs) f =
      go (eqb (operation_code operation) (operation_code o') && (Equality.identical x x' && Equality.identical y y'))
      (looked_up operation x y rs λ k l. f (suc k) (omega (arith, l)))
    where
      go : (b : Bool) → FittingLookup (function_value operation x y rs) → FittingLookup (cond b (found z) (function_value operation x y rs))
      go true g = f 0 (omega arith)
      go false g = g

  asked_fits : (operation : Operation) (x y : Complex) → Gives Fitting (asked R operation x y)
  unfolding given Gives FittingLookup
  asked_fits operation x y = go (function_value operation x y R.functions) (looked_up operation x y R.functions fit)
    where
      go : (l : Lookup) → FittingLookup l → Gives Fitting (given operation x y l)
      go (found z) f = f
      go missing f = tt

  then_fits : (a : Evaluation) (f : Complex → Evaluation) → ((z : Complex) → Gives Fitting (f z)) → Gives Fitting (Evaluating.and_then a f)
  unfolding Evaluating.and_then Gives
  then_fits (Evaluation.Value z) f g = g z
  then_fits Evaluation.Incomplete f g = tt
  then_fits (Evaluation.Need operation x y) f g = tt

  pub fitting_numbers : Numbers Fitting R
  unfolding calculate_function calculate_infix cis Gives
  fitting_numbers = record {
    functions = λ f x. elim f as (λ f. Gives Fitting (calculate_function R f x)) [
      | ExpressionFunction.Sine ↦ asked_fits Operation.Sine x zero_number
      | ExpressionFunction.Cosine ↦ asked_fits Operation.Cosine x zero_number
      | ExpressionFunction.Exponent ↦ asked_fits Operation.Exponent x zero_number
      | ExpressionFunction.SquareRoot ↦ asked_fits Operation.SquareRoot x zero_number
      | ExpressionFunction.Cis ↦ then_fits (asked_one R Operation.Cosine x) _ λ c. then_fits (asked_one R Operation.Sine x) _ λ s. plus_fitting _ _
    ];
    infixes = λ o x y. elim o as (λ o. Gives Fitting (calculate_infix R o x y)) [
      | InfixOperator.Plus ↦ plus_fitting x y
      | InfixOperator.Minus ↦ minus_fitting x y
      | InfixOperator.Star ↦ times_fitting x y
      | InfixOperator.Slash ↦ over_fitting x y
      | InfixOperator.Caret ↦ asked_fits Operation.Power x y
    ];
  }
