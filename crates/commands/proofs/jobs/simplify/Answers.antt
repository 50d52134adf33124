-- `simplify` meets its contract. Assumes nothing.
use Rattle.commands.proofs.Resulting.{simplified_as, listing_comes, refusal_comes}
use Rattle.commands.proofs.jobs.simplify.Goals as goal

pub returns-in-Ok : goal.returns-in-Ok
returns-in-Ok c = record {
  comes =
      simplified_as c.args.traced _ c.args.limit c.args.list.now c.args.values.now c.args.out.now
      (listing_comes c.args.list.now c.args.values.now _ c.call_simplify-answer.ensures.answered c.in-Ok.is c.part.ensures.prefix_len c.part.ensures.least);
  marked = c.call_simplify-answer.ensures.marked;
}

pub returns-in-Err : goal.returns-in-Err
returns-in-Err c = record {
  comes =
      simplified_as c.args.traced _ c.args.limit c.args.list.now c.args.values.now c.args.out.now
      (refusal_comes c.args.list.now c.args.values.now _ c.call_simplify-answer.ensures.answered c.in-Err.is c.fault_of.ensures);
  marked = c.call_simplify-answer.ensures.marked;
}
