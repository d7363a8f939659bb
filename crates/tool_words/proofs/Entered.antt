-- The subcommand that a parse entered.
use Rattle.std.proofs.Common.{◌≡◌, Bor, Option, None, Some, refl}
use Rattle.clap.specs.{Simple.subcommand_rows, Words.Text, Words.found_of, Words.rows_of}
use Rattle.clap.specs.declared.parser.matches.ArgMatches.{ArgMatches, TheViews.out-SubCommand}
use Rattle.clap.specs.declared.parser.matches.SubCommand.{SubCommand}
use Rattle.std.specs.{Box.box_value, Prelude.Box, Prelude.option_map}

-- a name and the rows under it are the pair
module _ {Z : Type 0} where
  pub entered_pair : (r : Option (Bor Text × ArgMatches)) (o : Option (Box SubCommand Z))
      → option_map (λ p. p.0.now) r
      ≡ option_map (λ b. (out-SubCommand (box_value b)).name.now) o
      → option_map (λ p. rows_of (found_of p.1)) r ≡ option_map (λ p. p.1) (subcommand_rows o)
      → option_map (λ p. (p.0.now, rows_of (found_of p.1))) r ≡ subcommand_rows o
  entered_pair None None name rows = refl
  entered_pair None (Some b) name rows = absurd (cc)
  entered_pair (Some p) None name rows = absurd (cc)
  entered_pair (Some p) (Some b) name rows = cc
