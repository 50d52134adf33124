-- What the code's answer says, as a request. Only connecting.
use Rattle.std.specs.Prelude.{◌≡◌, ℕ, ◌≤◌, List, length, drop, Option, is_some, unwrap_or}
use Rattle.text.specs.Reading.{starts}
use Rattle.commands.specs.declared.words.Asked.{Asked}
use Rattle.commands.specs.declared.words.Command.{Command}
use Rattle.commands.specs.Words.{Request, job, help, version, nothing, unknown, too_many, after, simplifying, at_limit, with_file, request}

-- a place in the words as the words from there on
abbrev pub seen : (words : List ℕ) → Asked → Request
seen words (Asked.Job command at) = job command (drop at words)
seen words Asked.Help = help
seen words Asked.Version = version
seen words Asked.Nothing = nothing
seen words Asked.Unknown = unknown
seen words Asked.TooMany = too_many

abbrev pub Asks : (List ℕ → Request) → (words : List ℕ) → Asked → Type 0
Asks asked words r = seen words r ≡ asked words

abbrev pub FoundAt : (words : List ℕ) (at : ℕ) (word : List ℕ) → Option ℕ → Type 0
FoundAt words at word r = (is_some r ≡ starts word (drop at words)) × (drop (unwrap_or r at) words ≡ after word (drop at words))

abbrev pub AsksSimplifying : (words : List ℕ) (at limit : ℕ) → Asked → Type 0
AsksSimplifying words at limit r = seen words r ≡ simplifying limit (drop at words)

abbrev pub AsksAtLimit : (words : List ℕ) (at : ℕ) → Asked → Type 0
AsksAtLimit words at r = seen words r ≡ at_limit (drop at words)

-- the place is one of the words or their end
abbrev pub Inside : (words : List ℕ) → Asked → Type 0
Inside words (Asked.Job command at) = at ≤ length words
Inside words Asked.Help = Unit {0}
Inside words Asked.Version = Unit {0}
Inside words Asked.Nothing = Unit {0}
Inside words Asked.Unknown = Unit {0}
Inside words Asked.TooMany = Unit {0}

abbrev pub AsksFile : (words : List ℕ) → Command → (at : ℕ) → Asked → Type 0
AsksFile words command at r = (seen words r ≡ with_file (job command (drop at words))) × Inside words r

abbrev pub AsksAll : (words : List ℕ) → Asked → Type 0
AsksAll words r = (seen words r ≡ request words) × Inside words r
