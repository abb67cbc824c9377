-- `zeros` meets its contract.
use mathlib.Core.Path.{refl}
use Rattle.report_text.specs.Text.{text_bytes}
use Rattle.report_text.proofs.Bytes.{zeros_at}
use Rattle.report_text.proofs.inner.zeros.Goals as goal

pub returns : goal.returns
returns c = (refl, λ k. zeros_at text_bytes k)
