-- Any two answers that the contract of an exported call allows are equal, with their words, marks, output bytes and work memory. Assumes nothing.
use mathlib.Core.Path.{◌≡◌, sym, ◌∙◌}
use Prim.Native.Nat.{ℕ}
use mathlib.Core.List.{List}
use Rattle.calls.specs.Lent.{Work}
use Rattle.exports.specs.Words.{Answered, Evaluates, EvaluatesMarked, Substitutes, SubstitutesOrigins, ReadsReal, Simplifies, SimplifiesMarked, SimplifiesOrigins, Compiles, Plays, PlaysMarked, Checks, Picks}

pub one_words : {want : List ℕ} {r r' : ℕ} {a a' : List ℕ} → Answered want r a → Answered want r' a' → (r ≡ r') × (a ≡ a')
one_words p q = (p.number ∙ sym q.number, p.words ∙ sym q.words)

pub one_evaluated : {list values : List ℕ} {w : Work} {r r' : ℕ} {a a' : List ℕ} {w₁ w₂ : Work}
    → Evaluates list values w r a w₁ → Evaluates list values w r' a' w₂ → ((r ≡ r') × (a ≡ a')) × (w₁ ≡ w₂)
one_evaluated p q = (one_words p.answered q.answered, p.left ∙ sym q.left)

pub one_evaluated_marked : {list values : List ℕ} {w : Work} {r r' : ℕ} {a a' marks₁ marks₂ : List ℕ} {w₁ w₂ : Work}
    → EvaluatesMarked list values w r a marks₁ w₁ → EvaluatesMarked list values w r' a' marks₂ w₂ → ((r ≡ r') × (a ≡ a')) × (marks₁ ≡ marks₂) × (w₁ ≡ w₂)
one_evaluated_marked p q = (one_words p.answered q.answered, p.marked ∙ sym q.marked, p.left ∙ sym q.left)

pub one_substituted : {list out : List ℕ} {w : Work} {r r' : ℕ} {a a' out₁ out₂ : List ℕ} {w₁ w₂ : Work}
    → Substitutes list out w r a out₁ w₁ → Substitutes list out w r' a' out₂ w₂ → ((r ≡ r') × (a ≡ a')) × (out₁ ≡ out₂) × (w₁ ≡ w₂)
one_substituted p q = (one_words p.answered q.answered, p.output ∙ sym q.output, p.left ∙ sym q.left)

pub one_substituted_origins : {list out : List ℕ} {w : Work} {r r' : ℕ} {a a' out₁ out₂ : List ℕ} {w₁ w₂ : Work}
    → SubstitutesOrigins list out w r a out₁ w₁ → SubstitutesOrigins list out w r' a' out₂ w₂ → ((r ≡ r') × (a ≡ a')) × (out₁ ≡ out₂) × (w₁ ≡ w₂)
one_substituted_origins p q = (one_words p.answered q.answered, p.output ∙ sym q.output, p.left ∙ sym q.left)

pub one_real : {list : List ℕ} {w : Work} {r r' : ℕ} {a a' : List ℕ} {w₁ w₂ : Work} → ReadsReal list w r a w₁ → ReadsReal list w r' a' w₂
    → ((r ≡ r') × (a ≡ a')) × (w₁ ≡ w₂)
one_real p q = (one_words p.answered q.answered, p.left ∙ sym q.left)

pub one_simplified : {limit : ℕ} {list values out : List ℕ} {w : Work} {r r' : ℕ} {a a' out₁ out₂ : List ℕ} {w₁ w₂ : Work}
    → Simplifies limit list values out w r a out₁ w₁ → Simplifies limit list values out w r' a' out₂ w₂ → ((r ≡ r') × (a ≡ a')) × (out₁ ≡ out₂) × (w₁ ≡ w₂)
one_simplified p q = (one_words p.answered q.answered, p.output ∙ sym q.output, p.left ∙ sym q.left)

pub one_simplified_marked : {limit : ℕ} {list values out : List ℕ} {w : Work} {r r' : ℕ} {a a' marks₁ marks₂ out₁ out₂ : List ℕ} {w₁ w₂ : Work}
    → SimplifiesMarked limit list values out w r a marks₁ out₁ w₁ → SimplifiesMarked limit list values out w r' a' marks₂ out₂ w₂
    → ((r ≡ r') × (a ≡ a')) × (marks₁ ≡ marks₂) × (out₁ ≡ out₂) × (w₁ ≡ w₂)
one_simplified_marked p q = (one_words p.answered q.answered, p.marked ∙ sym q.marked, p.output ∙ sym q.output, p.left ∙ sym q.left)

pub one_simplified_origins : {limit : ℕ} {list values out : List ℕ} {w : Work} {r r' : ℕ} {a a' marks₁ marks₂ out₁ out₂ : List ℕ} {w₁ w₂ : Work}
    → SimplifiesOrigins limit list values out w r a marks₁ out₁ w₁ → SimplifiesOrigins limit list values out w r' a' marks₂ out₂ w₂
    → ((r ≡ r') × (a ≡ a')) × (marks₁ ≡ marks₂) × (out₁ ≡ out₂) × (w₁ ≡ w₂)
one_simplified_origins p q = (one_words p.answered q.answered, p.marked ∙ sym q.marked, p.output ∙ sym q.output, p.left ∙ sym q.left)

pub one_compiled : {list out : List ℕ} {w : Work} {r r' : ℕ} {a a' out₁ out₂ : List ℕ} {w₁ w₂ : Work}
    → Compiles list out w r a out₁ w₁ → Compiles list out w r' a' out₂ w₂ → ((r ≡ r') × (a ≡ a')) × (out₁ ≡ out₂) × (w₁ ≡ w₂)
one_compiled p q = (one_words p.answered q.answered, p.output ∙ sym q.output, p.left ∙ sym q.left)

pub one_played : {tape values table : List ℕ} {r r' : ℕ} {a a' table₁ table₂ : List ℕ}
    → Plays tape values table r a table₁ → Plays tape values table r' a' table₂ → ((r ≡ r') × (a ≡ a')) × (table₁ ≡ table₂)
one_played p q = (one_words p.answered q.answered, p.left ∙ sym q.left)

pub one_played_marked : {tape values table : List ℕ} {r r' : ℕ} {a a' marks₁ marks₂ table₁ table₂ : List ℕ}
    → PlaysMarked tape values table r a marks₁ table₁ → PlaysMarked tape values table r' a' marks₂ table₂ → ((r ≡ r') × (a ≡ a')) × (marks₁ ≡ marks₂) × (table₁ ≡ table₂)
one_played_marked p q = (one_words p.answered q.answered, p.marked ∙ sym q.marked, p.left ∙ sym q.left)

pub one_checked : (tape : List ℕ) {r r' : ℕ} {a a' : List ℕ} → Checks tape r a → Checks tape r' a' → (r ≡ r') × (a ≡ a')
one_checked tape p q = one_words p q

pub one_picked : (a b : List ℕ) {r r' : ℕ} {x x' : List ℕ} → Picks a b r x → Picks a b r' x' → (r ≡ r') × (x ≡ x')
one_picked a b p q = one_words p q
