-- The index by which a node is found: chains of nodes whose keys fall in one bucket, the newest first. Only connecting.
use Rattle.std.specs.Prelude.{ℕ, zero, suc, ◌-◌, ◌*◌, ◌%◌, ◌/◌, cond, List, eqb, ltb, get_or, set}
use Rattle.complex.specs.Classes.{class_of_bits}
use Rattle.store.specs.declared.node.Fields.{Fields}
use Rattle.store.specs.Words.{with_node, with_head, with_kept}
use Rattle.store.specs.Nodes.{fields}
use Rattle.store.specs.Hash.{hash}
use Rattle.store.specs.Memory.{Memory, columns, with_link, room, fields_at, home_at, head_at, class_at}

-- what stands for a word of a node in its key, by the node's kind: the class of a double; from the kind `operands` on the class of an operand; else
-- the word
unfoldable pub word_key : (class : ℕ → ℕ) (operands kind : ℕ) → ℕ → ℕ
word_key class operands kind x = cond (eqb kind 1) (class_of_bits x) (cond (ltb kind operands) x (class x))

-- the fields of a node with classes in place of operands and of doubles: those of equal trees, and no others, are the same
unfoldable pub key_of : (class : ℕ → ℕ) → Fields → Fields
key_of class f = fields f.code (word_key class 5 (f.code % 8) f.first) (word_key class 7 (f.code % 8) f.second)

-- one of twice as many buckets as there are places for nodes, which are fewer than 65536
unfoldable pub bucket_of : (places : ℕ) → Fields → ℕ
bucket_of places f = hash f * (places % 65536) / 2147483648

module _ (m : Memory) where
  unfoldable pub key_at : ℕ → Fields
  key_at k = key_of (class_at m) (fields_at m k)

  unfoldable pub bucket_at : ℕ → ℕ
  bucket_at k = bucket_of (room m) (key_at k)

  -- the head of a bucket, of n nodes: a number counts that is a node's, plus one, whose home is this bucket. So nothing has to be cleared
  -- before the first node is stored: what the words held before names no node of its bucket
  unfoldable pub head_for : (n b : ℕ) → ℕ
  head_for n b = cond (ltb n (head_at m b)) 0 (cond (eqb (home_at m (head_at m b - 1)) b) (head_at m b) 0)

-- of the first n, the last that f sends to b, plus one; or 0
unfoldable pub latest : (f : ℕ → ℕ) (b n : ℕ) → ℕ
latest f b zero = 0
latest f b (suc k) = cond (eqb (f k) b) (suc k) (latest f b k)

-- the links after node n joined a class, and became the head of a bucket
unfoldable pub with_own : (link : List ℕ) (n class head : ℕ) → List ℕ
with_own link n class head = set link n (with_node (get_or link n 0) class head)

unfoldable pub joined : (link : List ℕ) (n class head bucket : ℕ) → List ℕ
joined link n class head bucket = set (with_own link n class head) (bucket / 2) (with_head bucket (get_or (with_own link n class head) (bucket / 2) 0) n)

-- the nodes after node n was written so, joined a class and became the head of a bucket, before `head`
abbrev pub entered : Memory → (n tag first second class head bucket : ℕ) → Memory
entered m n tag first second class head bucket = columns (set m.tag n tag) (set m.first n first) (set m.second n second) (joined m.link n class head bucket)

-- the nodes after a result was kept: it stands with the class
abbrev pub kept_by : Memory → (e r : ℕ) → Memory
kept_by m e r = with_link m (class_at m e) (with_kept (get_or m.link (class_at m e) 0) r)
