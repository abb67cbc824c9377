-- `checked::letters` meets its contract: the letters that fit by the tables of the file fit for the file.
use native.Mathlib.Omega.{arith}
use Rattle.fitting.proofs.Meaning.{tables_asked, fits_in}
use Rattle.decoder.proofs.Decoding.{coder_itself, low_letters, fits_of}
use Rattle.decoder_refusal.proofs.Accepting.{window_accepted}
use Rattle.decoder.proofs.inner.checked.letters.Goals as goal

pub sets_of-requires : goal.sets_of-requires
sets_of-requires c = (window_accepted _ _ _ _ c.requires).limits.file

pub fitting-requires : goal.fitting-requires
fitting-requires c =
    let r = window_accepted _ _ _ _ c.requires in (
      tables_asked c.sets_of.ensures.tables,
      low_letters (coder_itself r.limits.file) _ r.letters,
      omega (arith, r.long),
    )

pub returns : goal.returns
returns c =
    let a = c.args in
    let r = window_accepted _ _ _ _ c.requires in
    let h = coder_itself r.limits.file in
    fits_of h a.w.settle c.sets_of.ensures.starts a.received.now a.w.before
    (fits_in c.sets_of.ensures.tables a.received.now a.w.before (low_letters h _ r.letters) c.fitting.ensures)
