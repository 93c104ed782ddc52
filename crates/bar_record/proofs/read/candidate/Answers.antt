use Rattle.std.proofs.Common.{get_or, Some}
use Rattle.bar_record.proofs.Rebuilt.{kind_is, slice_length_is, name_length_is, slice_is_held, name_is_short, network_stands, slice_stands, name_stands, seconds_fit, seconds_stand, rebuilt}
use Rattle.bar_record.proofs.read.candidate.Goals as goal

pub returns-in_err-slice : goal.returns-in_err-slice
returns-in_err-slice c = λ v law is.
    let rec = c.args.record.now in
    cc (c.in_err-slice.ensures v.key.slice (slice_is_held v rec is law) (slice_length_is v rec is law) (slice_stands v rec is law))

pub returns-in_err-name : goal.returns-in_err-name
returns-in_err-name c = λ v law is.
    let rec = c.args.record.now in
    cc (c.in_err-name.ensures v.key.name (name_is_short v rec is law) (name_length_is v rec is law) (name_stands v rec is law))

pub returns : goal.returns
returns c = λ v law is.
    let rec = c.args.record.now in
    rebuilt v rec is law (get_or rec 0 0) c.network_in.result c.in_ok-slice.slice c.in_ok-name.name c.seconds_in.result (Some c.in_ok-key.key)
    (kind_is v rec is law) c.in_ok-key.ensures
    (λ three. c.network_in.ensures v.key.network three (network_stands v rec is law))
    (cc (c.in_ok-slice.ensures v.key.slice (slice_is_held v rec is law) (slice_length_is v rec is law) (slice_stands v rec is law)))
    (cc (c.in_ok-name.ensures v.key.name (name_is_short v rec is law) (name_length_is v rec is law) (name_stands v rec is law)))
    (c.seconds_in.ensures v.seconds (seconds_fit v rec is law) (seconds_stand v rec is law))
