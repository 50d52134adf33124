-- When what is lent holds a store, and what a function that builds in it ensures. Only connecting.
use Rattle.std.specs.Prelude.{ℕ, ◌*◌, ◌≤◌, ◌<◌, ◌≡◌, Bool, cond, List, Option, Some, None, Result, Ok, Err, IfSome, IfOk, IsErr, length}
use Rattle.memory.specs.Layout.{desk_words}
use Rattle.expression.specs.Trees.{Tree, size, depth}
use Rattle.expression.specs.Alike.{equal}
use Rattle.expression.specs.Limits.{Limited}
use Rattle.expression.specs.declared.node.Expression.{Expression}
use Rattle.expression.specs.declared.refusal.Refusal.{Refusal}
use Rattle.store.specs.Nodes.{fields_of}
use Rattle.expression.specs.Nodes.{Within}
use Rattle.store.specs.Storing.{Tally, State, Answer, gives, refused, intern, keep, recall, fresh, place}
use Rattle.store.specs.Memory.{Memory, memory, room, fields_at, size_at, depth_at, home_at, origin_at, class_at, kept_at, next_at, expression_at, trees, tree_at, tree_of, kept_as, state_of}
use Rattle.store.specs.Index.{bucket_at, head_for, latest}
use Rattle.store.specs.declared.desk.Refused.{Refused}
use Rattle.store.specs.Desk.{count, tally_on, refusal_on, Refuses}

-- what is right of node k, one of n
pub record Right (m : Memory) (n k : ℕ) : Type 0 where
  pub formed : fields_at m k ≡ fields_of (expression_at m k)
  pub within : Within k (expression_at m k)
  pub sized : size_at m k ≡ size (tree_at m k)
  pub deep : depth_at m k ≡ depth (tree_at m k)
  pub limited : Limited (tree_at m k)
  pub home : home_at m k ≡ bucket_at m k
  pub classed : class_at m k ≡ place (equal (tree_at m k)) (trees m n)
  pub kept : kept_at m k ≤ n
  pub next : next_at m k ≡ latest (bucket_at m) (bucket_at m k) k

-- the first n nodes are a store: each is right, no tree stands twice, and each bucket begins with its newest node
pub record Holds (m : Memory) (n : ℕ) : Type 0 where
  pub fits : n ≤ room m
  pub each : (k : ℕ) → k < n → Right m n k
  pub apart : (i j : ℕ) → i < n → j < n → tree_at m i ≡ tree_at m j → i ≡ j
  pub heads : (b : ℕ) → b < 2 * room m → head_for m n b ≡ latest (bucket_at m) b n

-- all that is lent to what builds
pub record Lent : Type 0 where
  pub rows : Memory
  pub desk : List ℕ

abbrev pub lent : (store : List (List ℕ)) (desk : List ℕ) → Lent
lent store desk = record { rows = memory store; desk = desk }

abbrev pub tree_in : Lent → ℕ → Tree
tree_in l k = tree_at l.rows k

unfoldable pub state_in : Lent → State
state_in l = state_of l.rows (count l.desk) (tally_on l.desk)

-- what is lent holds a store
pub record Sound (l : Lent) : Type 0 where
  pub holds : Holds l.rows (count l.desk)
  pub long : length l.desk ≡ desk_words

-- the nodes that stood have the trees and the origins that they had; the others have no origin
pub record Step (l l' : Lent) : Type 0 where
  pub sound : Sound l'
  pub grew : count l.desk ≤ count l'.desk
  pub stays : (k : ℕ) → k < count l.desk → tree_in l' k ≡ tree_in l k
  pub traced : (k : ℕ) → k < count l.desk → origin_at l'.rows k ≡ origin_at l.rows k
  pub untraced : (k : ℕ) → count l.desk ≤ k → k < count l'.desk → origin_at l'.rows k ≡ 0

-- an answer of the code as one on trees: why nothing was built stands on the desk
unfoldable pub seen : Result ℕ Refused → Lent → Answer
seen (Ok k) l = gives (tree_in l k) (state_in l)
seen (Err e) l = refused (refusal_on l.desk) (state_in l)

-- what each function that builds ensures, from l to l': it answers `want`; a node is one of those that stand; and a store is held, after a
-- refusal too
pub record Built (want : Answer) (r : Result ℕ Refused) (l l' : Lent) : Type 0 where
  pub answer : seen r l' ≡ want
  pub inside : IfOk r λ k. k < count l'.desk
  pub step : Step l l'

-- the same of what starts from a store and is about nodes that stand
abbrev pub Builds : (Of : Lent → Type 0) (want : Lent → State → Answer) (r : Result ℕ Refused) (l l' : Lent) → Type 0
Builds Of want r l l' = Sound l → Of l → Built (want l (state_in l)) r l l'

-- adding a node: where its operands stand, the tree is stored as the definition says
abbrev pub Adds : (e : Expression) (r : Result ℕ Refused) (l l' : Lent) → Type 0
Adds e = Builds (λ l. Within (count l.desk) e) (λ l. intern (tree_of l.rows e))

-- the first of the limits, in 01's order, that a new node passes
unfoldable pub judged : (big deep room : Bool) → Option Refusal
judged big deep room = cond big (Some Refusal.Big) (cond deep (Some Refusal.Deep) (cond room None (Some Refusal.Room)))

-- where one is passed nothing is built, and the desk says why; else the desk stays
abbrev pub Judges : Option Refusal → (r : Result (Unit {0}) Refused) (desk desk' : List ℕ) → Type 0
Judges None r desk desk' = (r ≡ Ok tt) × (desk' ≡ desk)
Judges (Some why) r desk desk' = IsErr r × Refuses why desk desk'

-- from m to m' the result r of e is kept
abbrev pub Keeps : (m m' : Memory) (e r : ℕ) → Type 0
Keeps m m' e r =
    (desk : List ℕ) → Sound (record { rows = m; desk = desk }) → e < count desk → r < count desk
    → Built (gives (tree_at m r) (keep (tree_at m e) (tree_at m r) (state_in (record { rows = m; desk = desk })))) (Ok r) (record { rows = m; desk = desk }) (record { rows = m'; desk = desk })

-- r is the node that is kept for the tree of e, if there is one
abbrev pub Recalls : (m : Memory) (e : ℕ) (r : Option ℕ) → Type 0
Recalls m e r = (n : ℕ) (tally : Tally) → Holds m n → e < n → IfSome r (λ k. k < n) × (kept_as m r ≡ recall (tree_at m e) (state_of m n tally))

-- r says whether the trees of a and b are equal
abbrev pub Compares : (m : Memory) (a b : ℕ) (r : Bool) → Type 0
Compares m a b r = (n : ℕ) → Holds m n → a < n → b < n → r ≡ equal (tree_at m a) (tree_at m b)

-- there is a store with no node, nothing kept and nothing marked, with as much room, and no call was made
pub record Begun (l l' : Lent) : Type 0 where
  pub sound : Sound l'
  pub begins : state_in l' ≡ fresh (room l.rows) 0
