-- The devices of a table, and the rows that give them.
use Rattle.std.proofs.Common.{◌≡◌, ℕ, ◌+◌, Bool, true, false, cond, List, [], ◌∷◌, ◌++◌, length}
use Rattle.std.proofs.Common.{Bor, Option, None, Some, inl, refl, sym, ap, subst, ◌∙◌, arith}
use Rattle.std.proofs.Common.{length-append, eqb-true}
use Rattle.csv.specs.{Machine.next_record, Reading.Reached, Reading.strip_bom, Records.field_at}
use Rattle.csv.specs.declared.{parser.State.TheVariants.StartRecord, reader.Reader.Reader}
use Rattle.std.proofs.lemmas.{List.map-append, Map.Keys.IsDistinct-push}
use Rattle.std.specs.{Cmp.Lexicographic.nat_list_eq_equiv, List.IsDistinct, List.list_any}
use Rattle.std.specs.{Map.keys_of, Map.lookup, Prelude.map, Prelude.codes, Prelude.is_some}
use Rattle.std.specs.{Prelude.nat_eq, Prelude.◌||◌, Str.bytes_eq}
use Rattle.tap_rows.proofs.{AgencyRowLemmas.zip_more, GoingLemmas.head_is}
use Rattle.tap_rows.specs.AgencyTexts.{HasRecords, config_of, fields_read, first_record}
use Rattle.tap_rows.specs.Devices.{AreDevices, AreDevicesBy, Device, HasDeviceHead, IsDeviceRow}
use Rattle.tap_rows.specs.Devices.{IsDevicesFault, device_head, validator_of}
use Rattle.tap_rows.specs.declared.agency.choice.Separator.{Separator}
use Rattle.tap_rows.specs.declared.devices.fault.DevicesFault.{DevicesFault}
use Rattle.tap_rows.specs.inside.DeviceRows.{HasDevices, IsFaultBy, IsHeadRow, IsRowFault}
use Rattle.tap_rows.specs.inside.RecordReaders.{HasConsumed}
use Rattle.tap_rows.specs.declared.devices.fault.DevicesFault.TheVariants as fault

-- ---- the fields of a row
-- a row of two fields is these two
pub two_fields : (row : List (List ℕ)) (a b : List ℕ) → length row ≡ 2 → field_at row 0 ≡ Some a
    → field_at row 1 ≡ Some b → row ≡ a ∷ b ∷ []
unfolding field_at
two_fields [] a b long first second = absurd (omega (arith, long))
two_fields (x ∷ []) a b long first second = absurd (omega (arith, long))
two_fields (x ∷ y ∷ []) a b long first second = cc
two_fields (x ∷ y ∷ z ∷ row) a b long first second = absurd (omega (arith, long))

-- a row with the two names is the head, and the head has them
pub head_row : (row : List (List ℕ)) → IsHeadRow row → row ≡ device_head
head_row row is = two_fields row (codes "device") (codes "validator") is.0 is.1 is.2

pub row_of_head : (row : List (List ℕ)) → row ≡ device_head → IsHeadRow row
unfolding field_at
row_of_head row same = subst IsHeadRow (sym same) (refl, refl, refl)

-- ---- a look-up among the entries of a map
pub lookup_named : {K : Type 0} (f : K → List ℕ) (name : List ℕ) (entries : List (K × ℕ))
    → lookup (λ k. bytes_eq name (f k)) entries
    ≡ lookup (bytes_eq name) (map (λ e. (f e.0, e.1)) entries)
lookup_named f name [] = refl
lookup_named f name (e ∷ entries) =
    ap (cond (bytes_eq name (f e.0)) (Some e.1)) (lookup_named f name entries)

-- no device has a name that is not found
pub no_name : (devices : List Device) (name : List ℕ) → validator_of devices name ≡ None
    → list_any (bytes_eq name) (keys_of devices) ≡ false
no_name [] name none = refl
no_name (d ∷ devices) name none = by (bytes_eq name d.0) (no_name devices name) none
  where
    by : (b : Bool)
        → (validator_of devices name ≡ None → list_any (bytes_eq name) (keys_of devices) ≡ false)
        → cond b (Some d.1) (validator_of devices name) ≡ None
        → (b || list_any (bytes_eq name) (keys_of devices)) ≡ false
    by true rest is = absurd (cc is)
    by false rest is = rest is

-- a device of a new name is added behind the others
pub device_added : {V : Type 0} (f : V → List ℕ) (old new : List (V × ℕ)) (key : V) (name : List ℕ)
    (number : ℕ) → f key ≡ name
    → lookup (bytes_eq name) (map {B = Device} (λ e. (f e.0, e.1)) old) ≡ None
    → (lookup (λ k. bytes_eq (f key) (f k)) old ≡ None → new ≡ old ++ (key, number) ∷ [])
    → map {B = Device} (λ e. (f e.0, e.1)) new
    ≡ map {B = Device} (λ e. (f e.0, e.1)) old ++ (name, number) ∷ []
device_added {V} f old new key name number same none more =
    let pair : V × ℕ → Device = λ e. (f e.0, e.1) in
    let absent : lookup (λ k. bytes_eq (f key) (f k)) old ≡ None =
    lookup_named f (f key) old
    ∙ subst (λ n. lookup (bytes_eq n) (map pair old) ≡ None) (sym same) none in
    ap (map pair) (more absent) ∙ map-append pair old ((key, number) ∷ [])
    ∙ ap (λ (n : List ℕ). map pair old ++ (n, number) ∷ []) same

-- what was found is none, if a test says so
pub none_found : (found : Option ℕ) (test : Bool) → test ≡ is_some found → test ≡ false
    → found ≡ None
none_found None test is other = refl
none_found (Some number) test is other = absurd (cc (is, other))

-- a name is empty or not, as its length says
pub empty_name : (name : List ℕ) (test : Bool) → test ≡ nat_eq (length name) 0 → test ≡ true
    → name ≡ []
empty_name [] test is so = refl
empty_name (b ∷ name) test is so = let zero = eqb-true (length (b ∷ name)) 0 (sym is ∙ so) in
    absurd (omega (arith, zero))

pub some_name : (name : List ℕ) (test : Bool) → test ≡ nat_eq (length name) 0 → test ≡ false
    → ¬ (name ≡ [])
some_name name test is other none = let zero : nat_eq (length name) 0 ≡ true =
    ap (λ n. nat_eq (length n) 0) none in absurd (cc (is, other, zero))

-- ---- the head
-- a text without a record has not the head
pub no_record : (separator : Separator) (text : List ℕ) → HasRecords separator text []
    → ¬ (HasDeviceHead separator text)
unfolding Reached
no_record separator text (s, left, (same, all), none) head =
    let first : next_record (config_of separator) StartRecord [] [] (strip_bom text) ≡ None =
    rw (same, all) none in
    let empty : first_record separator text ≡ [] = ap fields_read first in
    absurd (cc (head, empty))

-- a first record that is another has it not either
pub other_head : (separator : Separator)
    (text : List ℕ) (head : List (List ℕ)) (reader : Reader (Bor (List ℕ)))
    → HasConsumed separator text (head ∷ []) reader → ¬ (head ≡ device_head)
    → ¬ (HasDeviceHead separator text)
other_head separator text head reader consumed other is =
    other (head_is separator text head [] reader.state consumed.left consumed.reached ∙ is)

pub has_head : (separator : Separator) (text : List ℕ) (devices : List Device)
    → AreDevicesBy separator text devices → HasDeviceHead separator text
has_head separator text devices are = let (s, left, reached, none) = are.records in
    sym (head_is separator text device_head are.rows s left reached)

-- ---- from row to row
pub devices_first : (separator : Separator)
    (text : List ℕ) (head : List (List ℕ)) (reader : Reader (Bor (List ℕ))) (devices : List Device)
    → HasConsumed separator text (head ∷ []) reader → head ≡ device_head → devices ≡ []
    → HasDevices separator text 0 reader devices
unfolding IsDistinct
devices_first separator text head reader devices consumed is none =
    subst (HasDevices separator text 0 reader) (sym none) (record {
      rows = [];
      consumed = subst (λ h. HasConsumed separator text (h ∷ []) reader) is consumed;
      each = tt;
      once = tt;
      number = refl;
    })

pub devices_more : (separator : Separator)
    (text : List ℕ) (count : ℕ) (reader after : Reader (Bor (List ℕ))) (old new : List Device)
    (row : List (List ℕ)) (device : Device)
    → HasDevices separator text count reader old
    → ((rows : List (List (List ℕ))) → HasConsumed separator text rows reader
    → HasConsumed separator text (rows ++ row ∷ []) after)
    → IsDeviceRow row device → validator_of old device.0 ≡ None → new ≡ old ++ device ∷ []
    → HasDevices separator text (count + 1) after new
devices_more separator text count reader after old new row device has consumed is none
    more =
    subst (HasDevices separator text (count + 1) after) (sym more) (record {
      rows = has.rows ++ row ∷ [];
      consumed = consumed (device_head ∷ has.rows) has.consumed;
      each = zip_more IsDeviceRow has.rows old row device has.each is;
      once = subst (IsDistinct bytes_eq) (sym (map-append (λ (d : Device). d.0) old (device ∷ [])))
          (IsDistinct-push nat_list_eq_equiv (keys_of old) device.0 has.once
          (no_name old device.0 none));
      number = omega (arith, has.number, length-append has.rows (row ∷ []));
    })

-- a row that was not added is the first that is wrong
pub row_fault : (separator : Separator)
    (text : List ℕ) (count number : ℕ) (reader after : Reader (Bor (List ℕ)))
    (devices : List Device)
    (row : List (List ℕ)) (f : DevicesFault)
    → HasDevices separator text count reader devices
    → ((rows : List (List (List ℕ))) → HasConsumed separator text rows reader
    → HasConsumed separator text (rows ++ row ∷ []) after)
    → number ≡ count + 2 → IsRowFault devices number row f → IsFaultBy separator text f
row_fault separator text count number reader after devices row fault.Head has consumed
    position
    is = absurd is
row_fault separator text count number reader after devices row (fault.Row at why) has
    consumed
    position is =
    let there = consumed (device_head ∷ has.rows) has.consumed in
    record {
      before = has.rows;
      devices = devices;
      row = row;
      records = record { state = after.state; left = there.left; reached = there.reached };
      each = has.each;
      once = has.once;
      number_is = omega (arith, is.0, position, has.number);
      is_wrong = is.1;
    }
row_fault separator text count number reader after devices row fault.NoMemory has consumed
    position is = tt

-- ---- the separator
pub own_devices : (separator : Separator) (text : List ℕ) (devices : List Device)
    → AreDevicesBy separator text devices → AreDevices separator text devices
own_devices separator text devices are =
    record { its = separator; is_its = inl (has_head separator text devices are, refl); are = are }

pub own_fault : (separator : Separator) (text : List ℕ) (f : DevicesFault) → ¬ (f ≡ fault.Head)
    → IsFaultBy separator text f → IsDevicesFault separator text f
own_fault separator text fault.Head other is = absurd (other refl)
own_fault separator text (fault.Row number why) other is = (
  separator,
  inl (
    sym (head_is separator text device_head (is.before ++ is.row ∷ []) is.records.state
        is.records.left is.records.reached),
    refl,
  ),
  is,
)
own_fault separator text fault.NoMemory other is = tt
