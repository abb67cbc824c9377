-- `present` meets its contract: with no letter after the present one each letter of an entry fits, else those between the two sets.
use Rattle.fitting.proofs.Present.{here_last, here_between}
use Rattle.mealy.specs.Word.{Has}
use Rattle.fitting.proofs.inner.tables.Sets.present.Goals as goal

pub returns-then-after-eq0 : goal.returns-then-after-eq0
returns-then-after-eq0 c =
    λ s k.
    let a = c.args in
    here_last a.self.now.next s a.self.now.letters a.o (Has a.set) a.after.now c.if-after-eq0.true c.image.ensures

pub returns : goal.returns
returns c =
    λ s k.
    let a = c.args in
    here_between a.self.now.next s a.self.now.letters a.o (Has a.set) a.after.now a.self.now.predecessors k
    c.requires.after_letters c.lead.ensures c.between.ensures
