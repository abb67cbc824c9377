-- `checked::string` meets its contract: a right byte for each place, with the old bytes after them.
use native.Mathlib.Omega.{arith}
use Rattle.decoder.proofs.Decoding.{coder_itself, low_letters, places_right}
use Rattle.decoder_refusal.proofs.Accepting.{string_accepted}
use Rattle.decoder.proofs.inner.checked.string.Goals as goal

pub sets_of-sets-requires : goal.sets_of-sets-requires
sets_of-sets-requires c = (string_accepted _ _ _ _ c.requires.accepted).limits.file

pub letters-n-requires : goal.letters-n-requires
letters-n-requires c = (string_accepted _ _ _ _ c.requires.accepted).limits.small

pub places-count-requires : goal.places-count-requires
places-count-requires c = (string_accepted _ _ _ _ c.requires.accepted).limits.small

pub decode_places-requires : goal.decode_places-requires
decode_places-requires c =
    let r = string_accepted _ _ _ _ c.requires.accepted in
    record {
      tables = record { coder = _; is = c.sets_of-sets.ensures.tables };
      below = low_letters (coder_itself r.limits.file) _ r.letters;
      present = omega (arith, c.letters-n.ensures);
      windows = omega (arith, c.places-count.ensures, c.letters-n.ensures);
      room = omega (arith, c.places-count.ensures, c.requires.room);
    }

pub returns : goal.returns
returns c =
    let r = string_accepted _ _ _ _ c.requires.accepted in
    record {
      counted = c.places-count.ensures;
      bytes =
          places_right (coder_itself r.limits.file) c.args.w c.sets_of-sets.ensures.starts c.args.received.now c.letters-n.ensures
          c.places-count.ensures (c.decode_places.ensures _ c.sets_of-sets.ensures.tables);
    }
