use Rattle.std.proofs.Common.{vec_items, rules}
use Rattle.std.proofs.lemmas.List.{take_rest}
use Rattle.script.proofs.Octets.{octet_more}
use Rattle.script.proofs.hex.octets.Goals as goal

pub loop-rest-preserved : goal.loop-rest-preserved
loop-rest-preserved c =
    let rest = c.loop-rest.rest.now in
    octet_more c.args.word.now rest (vec_items c.loop-rest.found) (vec_items c.push.new.self) _ c.in-Some.octet
    (search rules) c.loop-rest.invariant c.in-Some.ensures c.in_ok-push.ensures.items (take_rest rest 2)
