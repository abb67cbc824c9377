-- `different_letters` meets its contract: what the closure gives for i is word i.
use borrow.Author.Rules.{rules}
use Rattle.setting.proofs.Numbers.{made_all}
use Rattle.setting.proofs.inner.different_letters.Goals as goal

pub returns : goal.returns
returns c = let f = c.from_fn.ensures.items in made_all f.long (λ i l. let e = (f.at i 0 l).2 in search rules)
