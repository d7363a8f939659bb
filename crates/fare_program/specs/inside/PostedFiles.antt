-- Files that are posted or settled: what private functions alone cite.
use Rattle.fare_program.specs.{Options.Request, Program.ShowsRequest, Settling.ShowsSettled}
use Rattle.fare_service.specs.{Headline.AreLoaded, Lending.AreProvidedAs}
use Rattle.settlement.specs.Reading.{AreRead}
use Rattle.std.specs.Prelude.{◌≡◌, ℕ, Bool, List, Option}
use Rattle.tap_views.specs.declared.token.Token.{Token}
use Rattle.tariffs.specs.Fares.{Fares}
use Rattle.world.specs.Origins.{Origin, anywhere, file, memory, nowhere}
use Rattle.world.specs.Run.{Run, with_all}

-- where bytes come from, but that nothing is said of those in memory: also a disk that has them may
-- refuse a read
abbrev pub unless_memory : Origin → Origin
unless_memory (memory known) = anywhere
unless_memory nowhere = nowhere
unless_memory (file name) = file name
unless_memory anywhere = anywhere

-- These uploads were lent with the bytes of the files, and those that were drawn were loaded by the
-- calls that were appended.
pub record AreProvided (uploads : List Origin) (files : List (List ℕ)) (drawn : List ℕ) (old new : Run)
    : Type 0 where
  pub provided : AreProvidedAs uploads files
  pub run : Run
  pub loaded : AreLoaded uploads files drawn run
  pub appended : new ≡ with_all old run

-- Uploads were lent and posted as they are, and the text is what is asked for of them.
abbrev pub Posts : Request → Fares → Option Token → List Origin → Run → Run → List ℕ → Bool → Type 0
Posts request fares token uploads old new text success =
    (files : List (List ℕ)) × (drawn : List ℕ) × AreProvided uploads files drawn old new
    × ShowsRequest request fares files drawn token text success

-- This number of uploads was read in their order, and the text is what is asked for of them.
abbrev pub Settles : Request → Fares → Option Token → (ℕ → Origin) → ℕ → Run → Run → List ℕ → Bool
    → Type 0
Settles request fares token origin number old new text success = (files : List (List ℕ))
    × AreRead origin 0 number files old new
    × ShowsSettled request fares files token text success
