-- What a token pays by the text: its class, the terms of the class, and what its rides give.
use Rattle.fare_table.specs.{Classes.own_ceiling, Riders.token_of_digits}
use Rattle.std.specs.Prelude.{◌≡◌, ◌⊎◌, ℕ, ◌*◌, pos, List, Option, None, Some, Ok, codes}
use Rattle.std.specs.Prelude.{if◌then◌else◌}
use Rattle.tariffs.specs.Names.{same_name}
use Rattle.tariffs.specs.declared.{terms.Terms.Terms, transfer_terms.TransferTerms.TransferTerms}
use Rattle.toml.specs.Data.{Data, Members, no_members, member, string, integer, table, get_member}

-- this key of the text's `riders` names the token, and its value is the name of this class
pub record NamesRider (tree : Members) (token key class : List ℕ) : Type 0 where
  pub riders : Members
  pub listed : get_member (codes "riders") tree ≡ Some (table riders)
  pub holds : get_member key riders ≡ Some (string class)
  pub named : token_of_digits key ≡ Ok token

-- the class of the key that names the token, else the default class if no key names it
abbrev pub IsClassOf : Members → List ℕ → List ℕ → Type 0
IsClassOf tree token class =
    ((key : List ℕ) × NamesRider tree token key class)
    ⊎ ((get_member (codes "default_class") tree ≡ Some (string class))
    × ((key other : List ℕ) → ¬ NamesRider tree token key other))

-- the number that is there, else the one that holds if none is
abbrev pub IsNumberOr : ℕ → Option Data → ℕ → Type 0
IsNumberOr default None number = number ≡ default
IsNumberOr default (Some value) number = value ≡ integer (pos number)

-- the text's class of this name has these terms
pub record HasTerms (tree : Members) (class : List ℕ) (terms : Terms) : Type 0 where
  pub classes : Members
  pub listed : get_member (codes "classes") tree ≡ Some (table classes)
  pub element : Members
  pub holds : get_member class classes ≡ Some (table element)
  pub fare : get_member (codes "fare") element ≡ Some (integer (pos terms.fare))
  pub rides : IsNumberOr 60_000 (get_member (codes "rides") element) terms.rides
  pub ceiling : IsNumberOr (own_ceiling terms.rides terms.fare)
      (get_member (codes "ceiling") element) terms.ceiling

-- the terms of the class that the token pays by
pub record Pays (tree : Members) (token : List ℕ) (terms : Terms) : Type 0 where
  pub class : List ℕ
  pub is : IsClassOf tree token class
  pub has : HasTerms tree class terms

-- these are the keys of the text's class of this name
pub record IsElementOf (tree : Members) (class : List ℕ) (element : Members) : Type 0 where
  pub classes : Members
  pub listed : get_member (codes "classes") tree ≡ Some (table classes)
  pub holds : get_member class classes ≡ Some (table element)

-- the number of transfers that is there, 255 if it is the word `any`, and one if there is none
abbrev pub AreTaps : Option Data → ℕ → Type 0
AreTaps None taps = taps ≡ 1
AreTaps (Some value) taps =
    (value ≡ integer (pos taps)) ⊎ ((value ≡ string (codes "any")) × (taps ≡ 255))

-- the value of the last key of this name, else the one that was found before. A TOML text has no
-- key twice
abbrev pub last_named : List ℕ → Option Data → Members → Option Data
last_named name found no_members = found
last_named name found (member key value more) =
    last_named name (if same_name name key then Some value else found) more

-- the fare of the mode of this name: the one that the key `fares` of a class has for it, else the
-- class's own
abbrev pub IsFareOn : ℕ → Option Data → List ℕ → ℕ → Type 0
IsFareOn own None name fare = fare ≡ own
IsFareOn own (Some value) name fare =
    (fares : Members) × (value ≡ table fares) × IsNumberOr own (last_named name None fares) fare

-- the terms of a ride of the token on the mode of this name: the mode's fare, under the limits of
-- the class that the token pays by
pub record PaysOn (tree : Members) (token name : List ℕ) (terms : Terms) : Type 0 where
  pub class : List ℕ
  pub is : IsClassOf tree token class
  pub element : Members
  pub keys : IsElementOf tree class element
  pub own : Terms
  pub has : HasTerms tree class own
  pub fare : IsFareOn own.fare (get_member (codes "fares") element) name terms.fare
  pub rides : terms.rides ≡ own.rides
  pub ceiling : terms.ceiling ≡ own.ceiling

-- what a ride of the token gives: the transfers and the minutes of the class that it pays by, else
-- one transfer and 120 minutes
pub record Gives (tree : Members) (token : List ℕ) (given : TransferTerms) : Type 0 where
  pub class : List ℕ
  pub is : IsClassOf tree token class
  pub element : Members
  pub keys : IsElementOf tree class element
  pub taps : AreTaps (get_member (codes "transfers") element) given.taps
  pub minutes : ℕ
  pub counted : IsNumberOr 120 (get_member (codes "transfer_minutes") element) minutes
  pub time : given.time ≡ minutes * 60_000
