-- What numbers of 64 bits can hold.
use Rattle.histories.specs.declared.entry.Entry.{Entry}
use Rattle.part_texts.specs.Shown.{SpanFits}
use Rattle.settled_bills.specs.Parts.{PartView}
use Rattle.std.specs.List.{AllByRecursion}
use Rattle.std.specs.Prelude.{ℕ, ◌<◌, ◌^◌, List, All, IfSome, flat_map, length}
use Rattle.tariffs.specs.Fares.{Fares, class_of, meaning_at, price_of, ride_terms}
use Rattle.tariffs.specs.{Prices.IsBoundedPays, Terms.AreBoundedTerms}

-- the terms of each token are within their bounds on each mode at each moment, and so are the prices
-- of transfers, so that no tap costs more than 100,000 cents
pub record HaveBoundedTerms (fares : Fares) : Type 0 where
  pub terms : (token : List ℕ) (moment mode : ℕ)
      → AreBoundedTerms
      (ride_terms (meaning_at fares moment) (class_of (meaning_at fares moment) token) mode)
  pub pays : (moment from to : ℕ)
      → IfSome (price_of (meaning_at fares moment) from to) IsBoundedPays

-- each entry's validator has 32 bits
abbrev pub HaveNumbers : List Entry → Type 0
HaveNumbers history = All (λ entry. entry.validator < 2 ^ 32) history

-- there are fewer than 2 ^ 64 files, and the places in them have 64 bits
pub record HavePositions (files : List (List ℕ)) (parts : List PartView) : Type 0 where
  pub number : length files < 2 ^ 64
  pub positions : AllByRecursion (λ part. AllByRecursion SpanFits part.spans) parts

-- There are fewer than 2 ^ 64 files, and the places in them have 64 bits. All parts have fewer than
-- 2 ^ 47 taps, so that 64 bits hold their cents.
pub record CanBeWritten (files : List (List ℕ)) (parts : List PartView) : Type 0 where
  pub number : length files < 2 ^ 64
  pub positions : AllByRecursion (λ part. AllByRecursion SpanFits part.spans) parts
  pub numbers : AllByRecursion (λ part. HaveNumbers part.history) parts
  pub taps : length (flat_map (λ part. part.history) parts) < 2 ^ 47
