-- The columns that words name, as contracts see them.
use Rattle.clap.specs.Words.{Text}
use Rattle.std.specs.Borrow.{Bor}

-- columns of tokens, validators and moments
abbrev pub names_of : Bor Text × Bor Text × Bor Text → Text × Text × Text
names_of names = (names.0.now, names.1.now, names.2.now)
