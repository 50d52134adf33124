-- The returns of `add`, from what its calls ensure. Assumes nothing.
use mathlib.Core.Path.{◌≡◌, refl, sym, ap, ◌∙◌, subst}
use mathlib.Core.List.{List}
use mathlib.Core.Bool.{Bool, true, false, false≢true}
use Prim.Native.Nat.{ℕ, ◌+◌, ◌≤◌, ◌<◌, max}
use native.Mathlib.Omega.{arith}
use borrow.Author.Tests.{ltb-true, ltb-false}
use lib.Dec.{ltb}
use lib.ListN.{length-set}
use lib.Seq.{get_or-set_same, get_or-set_other}
use Rattle.std.specs.Prelude.{Option, Some, None, Result, Ok, Err, IsErr, is_err}
use Rattle.std.proofs.lemmas.Option.{none-some, same_Some}
use Rattle.expression.specs.Trees.{size, depth}
use Rattle.expression.specs.Limits.{largest, deepest}
use Rattle.expression.specs.declared.node.Expression.{Expression}
use Rattle.expression.specs.declared.refusal.Refusal.{Refusal}
use Rattle.store.specs.declared.node.Fields.{Fields}
use Rattle.store.specs.Words.{tag_of}
use Rattle.store.specs.Nodes.{fields_of}
use Rattle.expression.specs.Nodes.{measure_from, Within, Sound}
use Rattle.store.specs.Storing.{intern}
use Rattle.store.specs.Memory.{Memory, room, size_at, depth_at, origin_at, class_at, tree_at, tree_of, state_of}
use Rattle.store.specs.Index.{key_of, bucket_of, head_for, entered}
use Rattle.store.specs.declared.desk.Refused.{Refused}
use Rattle.store.specs.Desk.{count, calls_on, marks_on, tally_on, with_count, OfBuilding, Refuses}
use Rattle.store.specs.Held as Held
use Rattle.store.specs.Held.{Holds, Lent, state_in, seen, Built, judged, Judges}
use Rattle.store.specs.Walk.{Walked, WalkedTo, Finds}
use Rattle.expression.proofs.Sizes.{size_is as size-measure, depth_is as depth-measure}
use Rattle.store.proofs.Trees.{measure_grown, room_each}
use Rattle.store.proofs.Growing.{Limits, allowed_limits, found_answer, refused_answer, new_answer, holds_new, tree_old, origin_old, origin_new}
use Rattle.store.proofs.Noting.{marks_below}
use Rattle.store.proofs.Building.{named, stays, refuses_on}

-- a limit that is passed, and what the desk says then
record Past (o : Option Refusal) (desk desk' : List ℕ) : Type 0 where
  pub why : Refusal
  pub is : o ≡ Some why
  pub refuses : Refuses why desk desk'

-- the desk stays where no limit is passed
pub judged_none : (o : Option Refusal) {r : Result (Unit {0}) Refused} {desk desk' : List ℕ} → Judges o r desk desk' → r ≡ Ok tt → (o ≡ None) × (desk' ≡ desk)
judged_none None x k = (refl, x.1)
judged_none (Some why) x k = absurd (false≢true (ap is_err (sym k) ∙ x.0))

-- else it says which
judged_some : (o : Option Refusal) {r : Result (Unit {0}) Refused} {e : Refused} {desk desk' : List ℕ} → Judges o r desk desk' → r ≡ Err e → Past o desk desk'
judged_some None x k = absurd (false≢true (ap is_err (sym x.0) ∙ ap is_err k))
judged_some (Some why) x k = record { why = why; is = refl; refuses = x.1 }

-- what `judged` names is a refusal of what builds
judged_building : (big deep roomy : Bool) {why : Refusal} → judged big deep roomy ≡ Some why → OfBuilding why
unfolding judged
judged_building true deep roomy x = rw (sym (same_Some _ _ x)) (omega arith, omega arith)
judged_building false true roomy x = rw (sym (same_Some _ _ x)) (omega arith, omega arith)
judged_building false false true x = absurd (none-some _ x)
judged_building false false false x = rw (sym (same_Some _ _ x)) (omega arith, omega arith)

-- what `add` knows once it has sought the node
pub record Sought (m : Memory) (n : ℕ) (e : Expression) (f key : Fields) (most bucket head : ℕ) (found : Result ℕ ℕ) : Type 0 where
  pub sound : Sound e
  pub f_is : f ≡ fields_of e
  pub most_is : most ≡ room m
  pub key_is : key ≡ key_of (class_at m) f
  pub bucket_is : bucket ≡ bucket_of most key
  pub head_is : head ≡ head_for m n bucket
  pub walk : Finds m n f key head found

-- a new node's number is small
pub node_small : (m : Memory) (n z y : ℕ) {most : ℕ} → most ≡ room m → judged (ltb largest z) (ltb deepest y) (ltb n most) ≡ None → n < 4096
node_small m n z y {most} e x =
    let l = ltb-true n most (allowed_limits (ltb largest z) (ltb deepest y) (ltb n most) x).has_room in
    omega (arith, e, l, (room_each m (room m) (omega arith)).most)

module _ {m : Memory} {desk : List ℕ} {n : ℕ} (en : n ≡ count desk) {e : Expression} {f key : Fields} {most bucket head : ℕ} {found : Result ℕ ℕ}
    (k : Sought m n e f key most bucket head found) (hl : Held.Sound (record { rows = m; desk = desk })) (wl : Within (count desk) e) where
  abbrev l : Lent
  l = record { rows = m; desk = desk }

  h : Holds m n
  h = rw en hl.holds

  w : Within n e
  w = rw en wl

  state_is : state_in l ≡ state_of m n (tally_on desk)
  unfolding state_in
  state_is = rw en refl

  key_of_e : key ≡ key_of (class_at m) (fields_of e)
  key_of_e = k.key_is ∙ ap (key_of (class_at m)) k.f_is

  bucket_among : bucket ≡ bucket_of (room m) key
  bucket_among = k.bucket_is ∙ ap (λ r. bucket_of r key) k.most_is

  sought : WalkedTo m n (fields_of e) (key_of (class_at m) (fields_of e)) found
  sought = subst (λ g. WalkedTo m n g (key_of (class_at m) (fields_of e)) found) k.f_is (subst (λ x. WalkedTo m n f x found) key_of_e (k.walk h k.key_is (k.head_is ∙ ap (head_for m n) bucket_among)))

  pub adds_found : {node : ℕ} → found ≡ Ok node → Built (intern (tree_of m e) (state_in l)) (Ok node) l l
  adds_found x =
      let w' = rw x at sought in
      stays hl (rw en at w'.0) (rw state_is (found_answer h e k.sound w w'.1 (tally_on desk) w'.0))

  module _ {class : ℕ} (none : found ≡ Err class) {z y : ℕ} (ez : z ≡ measure_from ◌+◌ (size_at m) e) (ey : y ≡ measure_from max (depth_at m) e) where
    walked : Walked m n (fields_of e) (key_of (class_at m) (fields_of e)) n class
    walked = rw none at sought

    o : n ≤ n
    o = omega arith

    size_is : z ≡ size (tree_of m e)
    size_is = ez ∙ measure_grown ◌+◌ (tree_at m) (size_at m) n e w (λ i l. (h.each i l).sized ∙ size-measure (tree_at m i)) ∙ sym (size-measure (tree_of m e))

    depth_is : y ≡ depth (tree_of m e)
    depth_is = ey ∙ measure_grown max (tree_at m) (depth_at m) n e w (λ i l. (h.each i l).deep ∙ depth-measure (tree_at m i)) ∙ sym (depth-measure (tree_of m e))

    verdict_is : judged (ltb largest z) (ltb deepest y) (ltb n most) ≡ judged (ltb largest (size (tree_of m e))) (ltb deepest (depth (tree_of m e))) (ltb n (room m))
    verdict_is = rw (size_is, depth_is, k.most_is) refl

    pub adds_refused : {v : Result (Unit {0}) Refused} {why : Refused} {r : Result ℕ Refused} {desk₁ : List ℕ}
        → Judges (judged (ltb largest z) (ltb deepest y) (ltb n most)) v desk desk₁ → v ≡ Err why → IsErr r
        → Built (intern (tree_of m e) (state_in l)) r l (record { rows = m; desk = desk₁ })
    adds_refused j x i =
        let past = judged_some _ j x in
        let q = sym verdict_is ∙ past.is in
        named (rw state_is (refused_answer h e k.sound w walked (tally_on desk) o q)) (refuses_on m past.refuses (judged_building _ _ _ q) i hl)

    module _ (x : judged (ltb largest z) (ltb deepest y) (ltb n most) ≡ None) where
      limits : Limits (ltb largest (size (tree_of m e))) (ltb deepest (depth (tree_of m e))) (ltb n (room m))
      limits = allowed_limits _ _ _ (sym verdict_is ∙ x)

      abbrev m' : Memory
      m' = entered m n (tag_of (fields_of e).code z y bucket) (fields_of e).first (fields_of e).second class (head_for m n bucket) bucket

      abbrev l' : Lent
      l' = record { rows = m'; desk = with_count desk (n + 1) }

      count_new : count (with_count desk (n + 1)) ≡ n + 1
      unfolding count with_count
      count_new = get_or-set_same desk 0 (n + 1) 0 (omega (arith, hl.long))

      calls_same : calls_on (with_count desk (n + 1)) ≡ calls_on desk
      unfolding calls_on with_count
      calls_same = get_or-set_other desk 0 1 (n + 1) 0 λ q. absurd (omega arith)

      marks_same : marks_on (with_count desk (n + 1)) ≡ marks_on desk
      unfolding with_count
      marks_same = marks_below desk 0 (n + 1) (omega arith)

      not_big : size (tree_of m e) ≤ largest
      not_big = ltb-false largest (size (tree_of m e)) limits.not_big

      not_deep : depth (tree_of m e) ≤ deepest
      not_deep = ltb-false deepest (depth (tree_of m e)) limits.not_deep

      has_room : n < room m
      has_room = ltb-true n (room m) limits.has_room

      bucket_is_e : bucket ≡ bucket_of (room m) (key_of (class_at m) (fields_of e))
      bucket_is_e = bucket_among ∙ ap (bucket_of (room m)) key_of_e

      sound_new : Held.Sound l'
      unfolding with_count
      sound_new = record {
        holds = rw count_new (holds_new h e k.sound w walked (tally_on desk) o not_big not_deep has_room bucket bucket_is_e z y size_is depth_is);
        long = length-set desk 0 (n + 1) ∙ hl.long;
      }

      state_new : state_in l' ≡ state_of m' (n + 1) (tally_on desk)
      unfolding state_in
      state_new = rw (count_new, calls_same, marks_same) refl

      built_new : Built (intern (tree_of m e) (state_in l)) (Ok n) l l'
      unfolding seen
      built_new =
          let more : n < count (with_count desk (n + 1)) = rw count_new (omega arith) in
          record {
            answer = rw (state_new, state_is) (new_answer h e k.sound w walked (tally_on desk) o not_big not_deep has_room bucket bucket_is_e z y size_is depth_is);
            inside = more;
            step = record {
              sound = sound_new;
              grew = rw (count_new, ← en) (omega arith);
              stays = λ i q. tree_old h e k.sound w walked (tally_on desk) o not_big not_deep has_room bucket bucket_is_e z y size_is depth_is i (rw en q);
              traced = λ i q. origin_old h e k.sound w walked (tally_on desk) o not_big not_deep has_room bucket bucket_is_e z y size_is depth_is i (rw en q);
              untraced = λ i a q.
                  let only : i ≡ n = omega (arith, en, a, q, count_new) in
                  ap (origin_at m') only ∙ origin_new h e k.sound w walked (tally_on desk) o not_big not_deep has_room bucket bucket_is_e z y size_is depth_is;
            };
          }

      pub adds_new : {t : ℕ} {m₁ : Memory} {desk₁ desk₂ : List ℕ} → desk₁ ≡ desk → t ≡ tag_of f.code z y bucket → m₁ ≡ entered m n t f.first f.second class head bucket
          → desk₂ ≡ with_count desk₁ (n + 1) → Built (intern (tree_of m e) (state_in l)) (Ok n) l (record { rows = m₁; desk = desk₂ })
      adds_new es et em ed = rw (ed, es, em, et, k.f_is, k.head_is) built_new
