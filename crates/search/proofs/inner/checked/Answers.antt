-- `checked` meets its contract: the verdict on the coder of the file, with words that say the file's setting.
use mathlib.Core.Path.{ap}
use mathlib.Core.Logic.{◌≢◌}
use native.Mathlib.Omega.{arith}
use borrow.Author.Tests.{leb-true}
use Rattle.mealy.specs.Machine.{Machine}
use Rattle.mealy.proofs.SameSettings.{first_same}
use Rattle.mealy.proofs.PairStarts.{first_after}
use Rattle.coder.specs.File.{machine_of}
use Rattle.coder.proofs.Accepted.{accepted}
use Rattle.setting.specs.Words.{WordsOf}
use Rattle.setting.proofs.Same.{coder_sound, coder_machine, same_setting, words_closed}
use Rattle.values.specs.Order.{relation_of}
use Rattle.search.proofs.Files.{says_same, search_accepted}
use Rattle.search.proofs.inner.checked.Goals as goal

pub from_checked-c-requires : goal.from_checked-c-requires
from_checked-c-requires c = (search_accepted _ _ _ c.requires).file

pub start_states-starts-requires : goal.start_states-starts-requires
start_states-starts-requires c = coder_sound c.from_checked-c.ensures (accepted _ (search_accepted _ _ _ c.requires).file)

pub verdict-requires : goal.verdict-requires
verdict-requires c =
    let e = c.from_checked-c.ensures in
    let r = search_accepted _ _ _ c.requires in
    let a = accepted _ r.file in
    let w : WordsOf c.from_checked-c.result c.args.settle (λ i j. i ≢ j) _ _ =
    record { starts_are = c.start_states-starts.ensures; conflicts_are = c.different_letters-conflicts.ensures } in
    (coder_sound e a, words_closed e a w, leb-true _ _ r.fits)

pub returns : goal.returns
returns c =
    let e = c.from_checked-c.ensures in
    let a = accepted _ (search_accepted _ _ _ c.requires).file in
    let same = ap (λ (M : Machine). M.states) (coder_machine e a) in
    let p = c.args.settle in
    let M = machine_of c.args.file.now in
    let w = same_setting e a (record { starts_are = c.start_states-starts.ensures; conflicts_are = c.different_letters-conflicts.ensures }) in
    says_same (relation_of c.args.order) p w (omega arith) (λ q x. first_after M p q (first_same w q x)) c.verdict.result _ _
    c.verdict.ensures
