-- What follows of the kind of an error of words.
use Rattle.std.proofs.Common.{◌≡◌, [], List, inl, inr, subst}
use Rattle.clap.specs.Words.{App, IsAmong, Text, fault_of}
use Rattle.clap.specs.declared.error.kind.ErrorKind.{ErrorKind, TheVariants.OutOfMemory}
use Rattle.program_manners.specs.Words.{AsksForText, IsRequest}
use Rattle.std.specs.Prelude.{◌⊎◌}

module _ (app : App) (words : List Text) (kind : ErrorKind) where
  pub asks_for : (kind ≡ OutOfMemory) ⊎ IsAmong kind (fault_of app words) → IsRequest kind
      → AsksForText app words
  asks_for (inl memory) (inl help) = cc
  asks_for (inl memory) (inr version) = cc
  asks_for (inr among) (inl help) =
      inl (subst (λ k. IsAmong k (fault_of app words)) help among)
  asks_for (inr among) (inr version) =
      inr (subst (λ k. IsAmong k (fault_of app words)) version among)

  -- of words that are a command line
  pub of_memory : (kind ≡ OutOfMemory) ⊎ IsAmong kind (fault_of app words)
      → fault_of app words ≡ [] → kind ≡ OutOfMemory
  of_memory (inl memory) parses = memory
  of_memory (inr among) parses = absurd (subst (IsAmong kind) parses among)
