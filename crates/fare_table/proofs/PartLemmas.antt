-- Rules that were read, taken apart into what each key of the text gives.
use Rattle.std.proofs.Common.{◌≡◌, [], Ok, Err, refl, subst}
use Rattle.fare_table.specs.{Caps.caps_of, Caps.text_caps, Classes.classes_from, Classes.classes_of}
use Rattle.fare_table.specs.{Classes.default_of, Members.names_in, Modes.modes_of, OrFault.OrFault}
use Rattle.fare_table.specs.{OrFault.◌>>=◌, Riders.riders_of, TableMeaning.meaning_of_tree}
use Rattle.fare_table.specs.Transfers.{text_transfers, transfers_of}
use Rattle.fare_table.specs.{Validators.ranges_of, Window.window_of, Zone.zone_of}
use Rattle.tariffs.specs.TableMeaning.{TableMeaning}
use Rattle.toml.specs.Data.{Members}

-- two steps that came to an end: the first gave a value, and the second went on with it
pub bind_ok : {A B : Type 0} (o : OrFault A) (f : A → OrFault B) (b : B) → (o >>= f) ≡ Ok b
    → (a : A) × (o ≡ Ok a) × (f a ≡ Ok b)
bind_ok (Ok a) f b is = (a, refl, is)
bind_ok (Err e) f b is = absurd (cc)

-- the meaning is what the keys give
pub record AreParts (tree : Members) (meaning : TableMeaning) : Type 0 where
  pub modes : modes_of tree ≡ Ok meaning.modes
  pub transfers : transfers_of meaning.modes tree
      ≡ Ok (text_transfers meaning.transfers meaning.prices)
  pub caps : caps_of meaning.modes tree
      ≡ Ok (text_caps meaning.cap_names meaning.caps)
  pub table : Members
  pub members : classes_of tree ≡ Ok table
  pub classes : classes_from meaning.modes meaning.cap_names [] table ≡ Ok meaning.classes
  pub names : names_in table ≡ meaning.names
  pub standard : default_of table tree ≡ Ok meaning.standard
  pub ranges : ranges_of meaning.modes tree ≡ Ok meaning.ranges
  pub riders : riders_of table tree ≡ Ok meaning.riders
  pub zone : zone_of tree ≡ Ok meaning.zone
  pub window : window_of tree ≡ Ok meaning.window

abbrev outcome_of : TableMeaning → OrFault TableMeaning
outcome_of meaning = Ok meaning

same_rules : (one other : TableMeaning) → outcome_of one ≡ outcome_of other → one ≡ other
same_rules one other is = cc

moved : (tree : Members) (one other : TableMeaning) → outcome_of one ≡ outcome_of other
    → AreParts tree one → AreParts tree other
moved tree one other is has =
    subst (λ (r : TableMeaning). AreParts tree r) (same_rules one other is) has

pub parts : (tree : Members) (meaning : TableMeaning) → meaning_of_tree tree ≡ Ok meaning
    → AreParts tree meaning
unfolding meaning_of_tree
parts tree meaning is =
    let modes = bind_ok _ _ _ is in
    let transfers = bind_ok _ _ _ modes.2 in
    let capped = bind_ok _ _ _ transfers.2 in
    let table = bind_ok _ _ _ capped.2 in
    let classes = bind_ok _ _ _ table.2 in
    let standard = bind_ok _ _ _ classes.2 in
    let ranges = bind_ok _ _ _ standard.2 in
    let riders = bind_ok _ _ _ ranges.2 in
    let zone = bind_ok _ _ _ riders.2 in
    let window = bind_ok _ _ _ zone.2 in
    let whole : TableMeaning = record {
      modes = modes.0;
      transfers = transfers.0.pairs;
      prices = transfers.0.prices;
      classes = classes.0;
      names = names_in table.0;
      caps = capped.0.caps;
      cap_names = capped.0.names;
      standard = standard.0;
      ranges = ranges.0;
      riders = riders.0;
      zone = zone.0;
      window = window.0;
    } in
    moved tree whole meaning window.2
    (record {
      modes = modes.1;
      transfers = transfers.1;
      caps = capped.1;
      table = table.0;
      members = table.1;
      classes = classes.1;
      names = refl;
      standard = standard.1;
      ranges = ranges.1;
      riders = riders.1;
      zone = zone.1;
      window = window.1;
    })
