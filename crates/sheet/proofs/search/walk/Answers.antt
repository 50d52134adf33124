-- `walk` meets its contract. The invariant: from here on the walk comes to the first row that matches. Assumes nothing.
use mathlib.Core.Path.{sym, ap}
use native.Mathlib.Omega.{arith}
use Rattle.sheet.specs.Index.{link_of}
use Rattle.sheet.proofs.Seeking.{walking_hits, walking_on, walking_ends}
use Rattle.sheet.proofs.Indexing.{walking_begins}
use Rattle.sheet.proofs.search.walk.Goals as goal

pub loop-init : goal.loop-init
loop-init c = (c.requires.1, λ h e. walking_begins _ _ _ _ _ _ h e)

pub returns-in_err-j-clause-first : goal.returns-in_err-j-clause-first
returns-in_err-j-clause-first c = λ h e. rw c.from_residual.ensures (walking_ends (c.loop.invariant.1 h e) (ap link_of c.in_err-j.was))

pub row_matches-requires : goal.row_matches-requires
row_matches-requires c = omega (arith, c.loop.invariant.0, ap link_of c.in_ok-j.was, c.requires.0)

pub returns-then-row_matches : goal.returns-then-row_matches
returns-then-row_matches c = record {
  within = omega (arith, c.loop.invariant.0, ap link_of c.in_ok-j.was);
  first = λ h e. walking_hits (c.loop.invariant.1 h e) _ (omega (arith, c.loop.invariant.0, ap link_of c.in_ok-j.was)) (ap link_of c.in_ok-j.was) (sym c.if-row_matches.ensures);
}

pub next_of-at-requires : goal.next_of-at-requires
next_of-at-requires c = omega (arith, c.loop.invariant.0, ap link_of c.in_ok-j.was, c.requires.0)

pub loop-preserved : goal.loop-preserved
loop-preserved c = (
  omega (arith, c.next_of-at.ensures, c.loop.invariant.0, ap link_of c.in_ok-j.was),
  λ h e. rw c.next_of-at.ensures (walking_on (c.loop.invariant.1 h e) _ (ap link_of c.in_ok-j.was) (sym c.if-row_matches.ensures)),
)

pub returns-in_err-at-clause-first : goal.returns-in_err-at-clause-first
returns-in_err-at-clause-first c = λ h e. rw c.from_residual-in_err-at.ensures (walking_ends (c.loop.invariant.1 h e) (ap link_of c.in_err-at.was))
