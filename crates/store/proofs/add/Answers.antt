-- `add` meets its contract: the node stands, is refused, or is new. Assumes nothing.
use native.Mathlib.Omega.{arith}
use Rattle.store.proofs.Adding.{adds_found, adds_refused, adds_new, judged_none, node_small}
use Rattle.store.proofs.add.Goals as goal

pub returns-in-Ok : goal.returns-in-Ok
returns-in-Ok c = λ h w. adds_found c.standing-n.ensures (record { sound = c.fields_of-f.ensures.sound; f_is = c.fields_of-f.ensures.value; most_is = c.capacity-most.ensures; key_is = c.key_of-key.ensures; bucket_is = c.bucket_of-bucket.ensures; head_is = c.head_of-head.ensures; walk = c.find.ensures }) h w c.in-Ok.is

pub returns-in_err-judge : goal.returns-in_err-judge
returns-in_err-judge c = λ h w. adds_refused c.standing-n.ensures (record { sound = c.fields_of-f.ensures.sound; f_is = c.fields_of-f.ensures.value; most_is = c.capacity-most.ensures; key_is = c.key_of-key.ensures; bucket_is = c.bucket_of-bucket.ensures; head_is = c.head_of-head.ensures; walk = c.find.ensures }) h w c.in-Err.is c.size_of-size.ensures c.depth_of-depth.ensures c.judge.ensures c.in_err-judge.was c.from_residual.ensures.0

pub overflow_add-n : goal.overflow_add-n
overflow_add-n c = omega (arith, node_small _ c.standing-n.result c.size_of-size.result c.depth_of-depth.result c.capacity-most.ensures (judged_none _ c.judge.ensures c.in_ok-judge.was).0)

pub returns : goal.returns
returns c =
    let j = judged_none _ c.judge.ensures c.in_ok-judge.was in
    λ h w. adds_new c.standing-n.ensures (record { sound = c.fields_of-f.ensures.sound; f_is = c.fields_of-f.ensures.value; most_is = c.capacity-most.ensures; key_is = c.key_of-key.ensures; bucket_is = c.bucket_of-bucket.ensures; head_is = c.head_of-head.ensures; walk = c.find.ensures }) h w c.in-Err.is c.size_of-size.ensures c.depth_of-depth.ensures j.0 j.1 c.tag_of-tag.ensures c.enter.ensures c.stand.ensures
