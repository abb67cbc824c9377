-- `checked::window` meets its contract: what a window decodes to by the tables of the file is right for the file.
use native.Mathlib.Omega.{arith}
use Rattle.decoder.proofs.Decoding.{coder_itself, low_letters, decoded_of}
use Rattle.decoder_refusal.proofs.Accepting.{window_accepted}
use Rattle.decoder.proofs.inner.checked.window.Goals as goal

pub sets_of-requires : goal.sets_of-requires
sets_of-requires c = (window_accepted _ _ _ _ c.requires).limits.file

pub decode-requires : goal.decode-requires
decode-requires c =
    let r = window_accepted _ _ _ _ c.requires in (
      record { coder = _; is = c.sets_of.ensures.tables },
      low_letters (coder_itself r.limits.file) _ r.letters,
      omega (arith, r.long),
    )

pub returns : goal.returns
returns c =
    let a = c.args in
    let r = window_accepted _ _ _ _ c.requires in
    decoded_of (coder_itself r.limits.file) a.w.settle c.sets_of.ensures.starts a.received.now a.w.before
    (c.decode.ensures _ c.sets_of.ensures.tables)
