-- What a walk through a chain of the index finds. Only connecting, and only inside the store.
use Rattle.std.specs.Prelude.{ℕ, ◌≤◌, ◌<◌, ◌≡◌, Result, Ok, Err}
use Rattle.store.specs.declared.index.Meeting.{Meeting}
use Rattle.store.specs.declared.node.Fields.{Fields}
use Rattle.store.specs.Memory.{Memory, room, fields_at, class_at}
use Rattle.store.specs.Index.{key_of, bucket_of, key_at, head_for}
use Rattle.store.specs.Held.{Holds}

-- the class of a node with this key; or n, where none of the nodes from `from` on has it
pub data Kinship (m : Memory) (n : ℕ) (key : Fields) (from class : ℕ) : Type 0 where
  kin : (j : ℕ) → j < n → key_at m j ≡ key → class ≡ class_at m j → Kinship m n key from class
  stranger : class ≡ n → ((j : ℕ) → from ≤ j → j < n → key_at m j ≡ key → ⊥) → Kinship m n key from class

-- how node k meets the fields f with this key
abbrev pub Meets : (m : Memory) (k : ℕ) (f key : Fields) → Meeting → Type 0
Meets m k f key Meeting.Own = fields_at m k ≡ f
Meets m k f key Meeting.Kin = (key_at m k ≡ key) × (fields_at m k ≡ f → ⊥)
Meets m k f key Meeting.Stranger = key_at m k ≡ key → ⊥

-- all nodes from `at` on have been looked at: none has the fields f, and `class` is the class of those with this key, if there are any
pub record Passed (m : Memory) (n : ℕ) (f key : Fields) (at class : ℕ) : Type 0 where
  pub within : at ≤ n
  pub none : (j : ℕ) → at ≤ j → j < n → fields_at m j ≡ f → ⊥
  pub kinship : Kinship m n key at class

-- the walk found the node with the fields f; or n, and then the class of those with this key
pub record Walked (m : Memory) (n : ℕ) (f key : Fields) (node class : ℕ) : Type 0 where
  pub inside : node ≤ n
  pub own : node < n → fields_at m node ≡ f
  pub none : n ≤ node → (j : ℕ) → j < n → fields_at m j ≡ f → ⊥
  pub kinship : n ≤ node → Kinship m n key 0 class

-- what a walk answers: the node; or, where there is none, the class
abbrev pub WalkedTo : (m : Memory) (n : ℕ) (f key : Fields) → Result ℕ ℕ → Type 0
WalkedTo m n f key (Ok node) = (node < n) × Walked m n f key node n
WalkedTo m n f key (Err class) = Walked m n f key n class

-- the same where n nodes are a store, the key is that of the fields, and `head` that of the key's bucket
abbrev pub Finds : (m : Memory) (n : ℕ) (f key : Fields) (head : ℕ) (r : Result ℕ ℕ) → Type 0
Finds m n f key head r = Holds m n → key ≡ key_of (class_at m) f → head ≡ head_for m n (bucket_of (room m) key) → WalkedTo m n f key r

-- the same from where all later nodes have been looked at
abbrev pub Scans : (m : Memory) (n : ℕ) (f key : Fields) (from class₀ : ℕ) (r : Result ℕ ℕ) → Type 0
Scans m n f key from class₀ r = key ≡ key_of (class_at m) f → Passed m n f key from class₀ → WalkedTo m n f key r
