use Rattle.std.proofs.Common.{map, arith}
use Rattle.bars.specs.Bars.{shown}
use Rattle.bars.specs.Claimed.{keys_of}
use Rattle.bars.proofs.Distincts.{among_standing, among_append}
use Rattle.bars.proofs.claimed.is_claimed.Goals as goal

pub returns-then-is_standing : goal.returns-then-is_standing
returns-then-is_standing g c =
    let octets = g.K.Key.octets in
    let k = octets c.args.key.now in
    let bs = shown octets c.args.bars.now in
    let both = among_append k (keys_of bs) (map octets c.args.keys.now) in
    let bar = among_standing k bs in
    grind arith

pub returns-else-is_standing : goal.returns-else-is_standing
returns-else-is_standing g c =
    let octets = g.K.Key.octets in
    let k = octets c.args.key.now in
    let bs = shown octets c.args.bars.now in
    let both = among_append k (keys_of bs) (map octets c.args.keys.now) in
    let bar = among_standing k bs in
    grind arith
