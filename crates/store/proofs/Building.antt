-- The laws of building in steps. `stays`: nothing is built. `then_node`: a step that gave a node, and what was done after it.
-- `then_refused`: a step that was refused; its state stands. `on_desk`: something was done to the desk first; `after_noting`: rows were
-- noted first. `named`: what is built by another name. Assumes nothing.
use mathlib.Core.Path.{◌≡◌, refl, ap, ◌∙◌, subst}
use mathlib.Core.Bool.{false≢true}
use mathlib.Core.List.{List, ◌++◌}
use Prim.Native.Nat.{ℕ, ◌≤◌, ◌<◌}
use native.Mathlib.Omega.{arith}
use native.Mathlib.Decide.{dec_lt}
use lib.ListN.{length}
use Rattle.std.specs.Prelude.{Result, Ok, Err, IfOk, IsErr, Option}
use Rattle.memory.specs.Layout.{numbered}
use Rattle.expression.specs.declared.refusal.Refusal.{Refusal}
use Rattle.expression.specs.Trees.{Tree}
use Rattle.store.specs.Storing.{State, Answer, gives, refused, and_then, noting}
use Rattle.store.specs.Memory.{Memory, origin_at, state_of}
use Rattle.store.specs.declared.desk.Refused.{Refused}
use Rattle.store.specs.Desk.{count, OfBuilding, refusal_on, Alike, Refuses, Notes}
use Rattle.store.specs.Held.{Lent, tree_in, state_in, Sound, Step, seen, Built}

-- all that was not built is one answer
pub unbuilt : {r : Result ℕ Refused} (e : Refused) → IsErr r → r ≡ Err e
unbuilt {r = Ok k} e x = absurd (false≢true x)
unbuilt {r = Err e'} e x = refl

-- nothing is asked of what was not built
pub nothing_asked : (r : Result ℕ Refused) (P : ℕ → Type 0) → IsErr r → IfOk r P
nothing_asked (Ok k) P x = absurd (false≢true x)
nothing_asked (Err e) P x = tt

-- what is known after a step that gave the node x
pub record Got (l : Lent) (x : ℕ) (l' : Lent) : Type 0 where
  pub sound : Sound l'
  pub inside : x < count l'.desk
  pub grew : count l.desk ≤ count l'.desk
  pub stays : (k : ℕ) → k < count l.desk → tree_in l' k ≡ tree_in l k

-- a node that stood stands
pub older : {l l' : Lent} {x : ℕ} → Got l x l' → {k : ℕ} → k < count l.desk → k < count l'.desk
older p o = omega (arith, p.grew, o)

pub both : {l l₁ l₂ : Lent} → Step l l₁ → Step l₁ l₂ → Step l l₂
both {l} {l₁} {l₂} p q = record {
  sound = q.sound;
  grew = omega (arith, p.grew, q.grew);
  stays = λ k o. q.stays k (omega (arith, p.grew, o)) ∙ p.stays k o;
  traced = λ k o. q.traced k (omega (arith, p.grew, o)) ∙ p.traced k o;
  untraced = λ k a o. new k a o (dec_lt k (count l₁.desk));
}
  where
    new : (k : ℕ) → count l.desk ≤ k → k < count l₂.desk → Dec (k < count l₁.desk) → origin_at l₂.rows k ≡ 0
    new k a o (yes x) = q.traced k x ∙ p.untraced k a x
    new k a o (no x) = q.untraced k (omega (arith, x)) o

pub idle : {l : Lent} → Sound l → Step l l
idle h = record { sound = h; grew = omega arith; stays = λ k o. refl; traced = λ k o. refl; untraced = λ k a o. absurd (omega (arith, a, o)) }

pub named : {want want' : Answer} {r : Result ℕ Refused} {l l' : Lent} → want ≡ want' → Built want r l l' → Built want' r l l'
named e b = record { answer = b.answer ∙ e; inside = b.inside; step = b.step }

pub turned : {want : Answer} {q r : Result ℕ Refused} {l l' : Lent} → q ≡ r → Built want q l l' → Built want r l l'
turned {want} {l = l} {l' = l'} e b = subst (λ r. Built want r l l') e b

pub stays : {want : Answer} {l : Lent} {i : ℕ} → Sound l → i < count l.desk → gives (tree_in l i) (state_in l) ≡ want → Built want (Ok i) l l
unfolding seen
stays h o e = record { answer = e; inside = o; step = idle h }

pub refuses : {want : Answer} {l : Lent} {r : Result ℕ Refused} → Sound l → IsErr r → refused (refusal_on l.desk) (state_in l) ≡ want → Built want r l l
unfolding seen
refuses {r = Ok k} h x e = absurd (false≢true x)
refuses {r = Err why} h x e = record { answer = e; inside = tt; step = idle h }

pub got : {want : Answer} {k : ℕ} {l l₁ : Lent} → Built want (Ok k) l l₁ → Got l k l₁
got b = record { sound = b.step.sound; inside = b.inside; grew = b.step.grew; stays = b.step.stays }

pub then_node : {want : Answer} {o r : Result ℕ Refused} {k : ℕ} {l l₁ l₂ : Lent} (next : Tree → State → Answer)
    → Built want o l l₁ → o ≡ Ok k
    → (Got l k l₁ → Built (next (tree_in l₁ k) (state_in l₁)) r l₁ l₂)
    → Built (and_then want next) r l l₂
unfolding and_then seen
then_node next b e f =
    let b' = rw e at b in
    let d = f (got b') in
    record { answer = d.answer ∙ ap (λ w. and_then w next) b'.answer; inside = d.inside; step = both b'.step d.step }

pub then_refused : {want : Answer} {o r : Result ℕ Refused} {why : Refused} {l l₁ : Lent} (next : Tree → State → Answer)
    → Built want o l l₁ → o ≡ Err why → IsErr r → Built (and_then want next) r l l₁
unfolding and_then seen
then_refused {r = Ok k} next b e x = absurd (false≢true x)
then_refused {r = Err _} next b e x = let b' = rw e at b in record { answer = ap (λ w. and_then w next) b'.answer; inside = tt; step = b'.step }

-- ---- something is done to the desk: the nodes stand

abbrev pub of : Memory → List ℕ → Lent
of m desk = record { rows = m; desk = desk }

module _ (m : Memory) {desk desk' : List ℕ} where
  pub sound_on : count desk' ≡ count desk → length desk' ≡ length desk → Sound (of m desk) → Sound (of m desk')
  sound_on e x h = record { holds = rw e h.holds; long = x ∙ h.long }

  pub on_desk : {want : Answer} {r : Result ℕ Refused} {l : Lent} → count desk' ≡ count desk → Built want r (of m desk') l → Built want r (of m desk) l
  on_desk e b = record {
    answer = b.answer;
    inside = b.inside;
    step = record {
      sound = b.step.sound;
      grew = omega (arith, e, b.step.grew);
      stays = λ k o. b.step.stays k (omega (arith, e, o));
      traced = λ k o. b.step.traced k (omega (arith, e, o));
      untraced = λ k a o. b.step.untraced k (omega (arith, e, a)) o;
    };
  }

  state_on : Alike desk desk' → state_in (of m desk') ≡ state_in (of m desk)
  unfolding state_in
  state_on x = λ i. state_of m (x.counted i) (record { calls = x.called i; marks = x.marked i })

  pub state_noted : {first second : Option ℕ} → Notes first second desk desk' → state_in (of m desk') ≡ noting (numbered first ++ numbered second) (state_in (of m desk))
  unfolding state_in noting
  state_noted x = λ i. state_of m (x.counted i) (record { calls = x.called i; marks = x.marked i })

  pub after_noting : {first second : Option ℕ} {r : Result ℕ Refused} {l : Lent} (next : State → Answer) → Notes first second desk desk' → Sound (of m desk)
      → (Sound (of m desk') → Built (next (state_in (of m desk'))) r (of m desk') l) → Built (next (noting (numbered first ++ numbered second) (state_in (of m desk)))) r (of m desk) l
  after_noting next x h f = on_desk x.counted (named (ap next (state_noted x)) (f (sound_on x.counted x.long h)))

-- a refusal, of which the desk says why
pub refuses_on : {why : Refusal} {r : Result ℕ Refused} (m : Memory) {desk desk' : List ℕ} → Refuses why desk desk' → OfBuilding why → IsErr r → Sound (of m desk)
    → Built (refused why (state_in (of m desk))) r (of m desk) (of m desk')
refuses_on m a o x h =
    on_desk m a.alike.counted
    (refuses (sound_on m a.alike.counted a.alike.long h) x (λ i. refused (a.told h.long o i) (state_on m a.alike i)))
