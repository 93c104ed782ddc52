use Rattle.std.proofs.Common.{◌≡◌, codes, sym, ap, arith}
use Rattle.std.proofs.lemmas.List.{at_drop_more, drop_all}
use Rattle.bench.specs.Verbs.{verb_named}
use Rattle.bench.proofs.command.verb_of.Goals as goal

pub returns-in-record : goal.returns-in-record
returns-in-record c =
    let w = c.args.word.now in
    let a = at_drop_more (λ ys. ys) w 0 0 (omega arith) in
    let b = at_drop_more (λ ys. ys) w 1 0 (omega arith) in
    let d = at_drop_more (λ ys. ys) w 2 0 (omega arith) in
    let e = at_drop_more (λ ys. ys) w 3 0 (omega arith) in
    let f = at_drop_more (λ ys. ys) w 4 0 (omega arith) in
    let g = at_drop_more (λ ys. ys) w 5 0 (omega arith) in
    let end = drop_all 6 w (omega arith) in
    let same : w ≡ codes "record" = grind arith in
    sym (ap verb_named same)

pub returns-in-seconds : goal.returns-in-seconds
returns-in-seconds c =
    let w = c.args.word.now in
    let a = at_drop_more (λ ys. ys) w 0 0 (omega arith) in
    let b = at_drop_more (λ ys. ys) w 1 0 (omega arith) in
    let d = at_drop_more (λ ys. ys) w 2 0 (omega arith) in
    let e = at_drop_more (λ ys. ys) w 3 0 (omega arith) in
    let f = at_drop_more (λ ys. ys) w 4 0 (omega arith) in
    let g = at_drop_more (λ ys. ys) w 5 0 (omega arith) in
    let h = at_drop_more (λ ys. ys) w 6 0 (omega arith) in
    let end = drop_all 7 w (omega arith) in
    let same : w ≡ codes "seconds" = grind arith in
    sym (ap verb_named same)
