-- `apart_words` meets its contract. The words of the letters below i are made.
use Rattle.mealy.specs.Word.{Has}
use Rattle.kind_list.specs.KindList.{kind_of}
use Rattle.search_kinds.specs.Letters.{ToldApart}
use Rattle.search_kinds.proofs.Apart.{WordsTo}
use Rattle.search_kinds.proofs.inner.letters.apart_words.Given as goal

abbrev pub invariant-loop-i : goal.invariant-loop-i
invariant-loop-i l = WordsTo (ToldApart l.across (kind_of l.kinds) (Has l.carried)) l.i l.word-items
