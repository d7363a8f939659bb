-- What contracts see of the words of `--table`, and of a wrong one.
use Rattle.program_manners.specs.{TableWords.TableNames, declared.table_words.DateFault.DateFault}
use Rattle.program_manners.specs.declared.table_words.{TableWords.TableWords, WrongWord.WrongWord}
use Rattle.std.specs.Prelude.{ℕ, List, map}

-- the word that is wrong, and what is wrong with it
abbrev pub wrong_of : WrongWord → List ℕ × DateFault
wrong_of wrong = (wrong.word.now, wrong.fault)

-- the words
abbrev pub names_of : TableWords → TableNames
names_of tables = record { first = tables.first.now; later = map (λ w. w.now) tables.later.items }
