-- `search` meets its promise: it is the search in the default order.
use Rattle.search.proofs.search.Goals as goal

pub returns : goal.returns
returns c = c.search_in_order.ensures
