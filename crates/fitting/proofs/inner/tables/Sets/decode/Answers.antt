-- `decode` meets its contract: the letters that fit and the letters that lead to some state, by the tables, are those by the coder's runs.
use Rattle.fitting.proofs.Meaning.{tables_asked, decoded_in}
use Rattle.fitting.proofs.inner.tables.Sets.decode.Goals as goal

pub fitting-fit-requires : goal.fitting-fit-requires
fitting-fit-requires c = let p = c.requires in (tables_asked p.0.is, p.1, p.2)

pub returns-then-fit-eq0 : goal.returns-then-fit-eq0
returns-then-fit-eq0 c = λ d k.
    decoded_in k c.args.window.now c.args.b c.requires.1 c.requires.2 c.fitting-fit.ensures (λ z. c.how_far.ensures)
    c.answer_of.ensures

pub returns : goal.returns
returns c = λ d k.
    decoded_in k c.args.window.now c.args.b c.requires.1 c.requires.2 c.fitting-fit.ensures (λ z. absurd (c.if-fit-eq0.false z))
    c.answer_of-2.ensures
