-- A text is the device table of one list of devices at most, and then it has no fault.
use Rattle.std.proofs.Common.{◌≡◌, ℕ, Bool, true, false, cond, List, [], ◌∷◌, ◌++◌, Some, length}
use Rattle.std.proofs.Common.{inl, inr, refl, sym, ap, subst, ◌∙◌, append_assoc}
use Rattle.csv.specs.{Machine.next_record, Reading.AreRecords, Reading.Reached}
use Rattle.csv.specs.declared.parser.{Config.Config, State.State}
use Rattle.std.specs.{Cmp.Lexicographic.bytes_decides, List.AllByRecursion, List.AllZip}
use Rattle.std.specs.{List.IsDistinct, Map.keys_of, Str.bytes_eq}
use Rattle.tap_rows.proofs.DeviceLemmas.{has_head}
use Rattle.tap_rows.proofs.UniqueParse.{head_same, one_list_of_records, one_read}
use Rattle.tap_rows.specs.Devices.{AreDevices, AreDevicesBy, Device, HasDeviceHead, IsDeviceRow}
use Rattle.tap_rows.specs.Devices.{IsDevicesFault, IsItsSeparator, IsWrongDevice, device_head}
use Rattle.tap_rows.specs.{Devices.validator_of, Rows.IsValidator}
use Rattle.tap_rows.specs.declared.agency.choice.Separator.{Separator}
use Rattle.tap_rows.specs.declared.devices.fault.DevicesFault.{DevicesFault}
use Rattle.tap_rows.specs.declared.devices.fault.WrongDevice.{WrongDevice}
use Rattle.tap_rows.specs.declared.devices.fault.DevicesFault.TheVariants as fault
use Rattle.tap_rows.specs.declared.devices.fault.WrongDevice.TheVariants as wrong

-- ---- the separator
one_separator : (separator : Separator) (text : List ℕ) (a b : Separator)
    → IsItsSeparator separator text a → IsItsSeparator separator text b → a ≡ b
one_separator separator text a b (inl (head, is)) (inl (also_head, also)) = is ∙ sym also
one_separator separator text a b (inl (head, is)) (inr (none, also)) = absurd (none head)
one_separator separator text a b (inr (none, is)) (inl (head, also)) = absurd (none head)
one_separator separator text a b (inr (none, is)) (inr (also_none, also)) = is ∙ sym also

-- ---- a row
same_name : (row : List (List ℕ)) (a b x y : List ℕ) → row ≡ a ∷ x ∷ [] → row ≡ b ∷ y ∷ []
    → (a ≡ b) × (x ≡ y)
same_name row a b x y is also = (cc, cc)

one_device : (row : List (List ℕ)) (a b : Device) → IsDeviceRow row a → IsDeviceRow row b → a ≡ b
one_device row a b is also =
    let (name, digits) = same_name row a.0 b.0 is.digits also.digits is.fields also.fields in
    let there : IsValidator is.digits b.1 =
    subst (λ t. IsValidator t b.1) (sym digits) also.number in
    let number : a.1 ≡ b.1 = is.number.0.value ∙ sym there.0.value in
    ap (λ (n : List ℕ). (n, a.1)) name ∙ ap (λ (v : ℕ). (b.0, v)) number

devices_same : (rows : List (List (List ℕ))) (devices others : List Device)
    → AllZip IsDeviceRow rows devices → AllZip IsDeviceRow rows others → devices ≡ others
devices_same [] [] [] is also = refl
devices_same [] [] (o ∷ others) is also = absurd also
devices_same [] (d ∷ devices) others is also = absurd is
devices_same (row ∷ rows) [] others is also = absurd is
devices_same (row ∷ rows) (d ∷ devices) [] is also = absurd also
devices_same (row ∷ rows) (d ∷ devices) (o ∷ others) is also =
    ap (λ x. x ∷ devices) (one_device row d o is.0 also.0)
    ∙ ap (λ xs. o ∷ xs) (devices_same rows devices others is.1 also.1)

pub one_list : (separator : Separator) (text : List ℕ) (devices others : List Device)
    → AreDevices separator text devices → AreDevices separator text others → devices ≡ others
one_list separator text devices others is also =
    let same = one_separator separator text is.its also.its is.is_its also.is_its in
    let there : AreDevicesBy is.its text others =
    subst (λ s. AreDevicesBy s text others) (sym same) also.are in
    let (heads, rows) = head_same device_head device_head is.are.rows there.rows
    (one_list_of_records _ _ _ (device_head ∷ is.are.rows) (device_head ∷ there.rows) is.are.records
    there.records) in
    devices_same is.are.rows devices others is.are.each
    (subst (λ rs. AllZip IsDeviceRow rs others) (sym rows) there.each)

-- ---- no row is wrong
-- the records that were read are the first of all
begins : (cfg : Config) (s : State) (xs : List ℕ) (rows begin : List (List (List ℕ))) (s2 : State)
    (ys : List ℕ) → AreRecords cfg s xs rows → Reached cfg s xs begin s2 ys
    → (more : List (List (List ℕ))) × (rows ≡ begin ++ more)
unfolding Reached
begins cfg s xs rows [] s2 ys are reached = (rows, refl)
begins cfg s xs [] (b ∷ begin) s2 ys (s3, zs, (same, left), none) (p, found, is, rest) =
    absurd (cc (same, left, none, found))
begins cfg s xs (r ∷ rows) (b ∷ begin) s2 ys (s3, zs, (p, found, is, rest), end)
    (q, again, also, more) =
    let same = one_read p q (next_record cfg s [] [] xs) found again in
    let first : r ≡ b = is ∙ ap (λ x. x.0) same ∙ sym also in
    let tail = subst (λ x. Reached cfg x.1 x.2 begin s2 ys) (sym same) more in
    let (others, all) = begins cfg p.1 p.2 rows begin s2 ys (s3, zs, rest, end) tail in
    (others, ap (λ x. x ∷ rows) first ∙ ap (λ xs. b ∷ xs) all)

-- a row behind some has its device behind theirs
valid_row : (before : List (List (List ℕ))) (row : List (List ℕ)) (more : List (List (List ℕ)))
    (devices found : List Device) → AllZip IsDeviceRow (before ++ row ∷ more) devices
    → AllZip IsDeviceRow before found
    → (device : Device) × (rest : List Device) × (devices ≡ found ++ device ∷ rest)
    × IsDeviceRow row device
valid_row [] row more [] found each have = absurd each
valid_row [] row more (d ∷ devices) [] each have = (d, devices, refl, each.0)
valid_row [] row more (d ∷ devices) (f ∷ found) each have = absurd have
valid_row (b ∷ before) row more [] found each have = absurd each
valid_row (b ∷ before) row more (d ∷ devices) [] each have = absurd have
valid_row (b ∷ before) row more (d ∷ devices) (f ∷ found) each have =
    let first = one_device b d f each.0 have.0 in
    let (device, rest, all, is) = valid_row before row more devices found each.1 have.1 in
    (device, rest, ap (λ x. x ∷ devices) first ∙ ap (λ ds. f ∷ ds) all, is)

apart_at : (name : List ℕ) (found : List Device) (device : Device) (rest : List Device)
    → AllByRecursion (λ y. bytes_eq name y ≡ false) (keys_of (found ++ device ∷ rest))
    → bytes_eq name device.0 ≡ false
apart_at name [] device rest all = all.0
apart_at name (f ∷ found) device rest all = apart_at name found device rest all.1

not_found : (found : List Device) (device : Device) (rest : List Device) (number : ℕ)
    → IsDistinct bytes_eq (keys_of (found ++ device ∷ rest))
    → ¬ (validator_of found device.0 ≡ Some number)
unfolding IsDistinct
not_found [] device rest number distinct is = absurd (cc is)
not_found (f ∷ found) device rest number distinct is =
    by (bytes_eq device.0 f.0) (apart_at f.0 found device rest distinct.0)
    (not_found found device rest number distinct.1) refl is
  where
    by : (b : Bool) → bytes_eq f.0 device.0 ≡ false → ¬ (validator_of found device.0 ≡ Some number)
        → bytes_eq device.0 f.0 ≡ b → cond b (Some f.1) (validator_of found device.0) ≡ Some number
        → ⊥
    by true apart rest_not same at =
        let name : device.0 ≡ f.0 = (bytes_decides device.0 f.0).0 same in
        let back : bytes_eq f.0 device.0 ≡ true = (bytes_decides f.0 device.0).1 (sym name) in
        absurd (cc (back, apart))
    by false apart rest_not same at = rest_not at

not_wrong : (found : List Device) (row : List (List ℕ)) (device : Device) (rest : List Device)
    (why : WrongDevice) → IsDeviceRow row device
    → IsDistinct bytes_eq (keys_of (found ++ device ∷ rest))
    → ¬ (IsWrongDevice found row why)
not_wrong found row device rest wrong.Fields is distinct other =
    other (subst (λ (r : List (List ℕ)). length r ≡ 2) (sym is.fields) refl)
not_wrong found row device rest wrong.NoName is distinct (digits, fields) =
    is.named (same_name row device.0 [] is.digits digits is.fields fields).0
not_wrong found row device rest wrong.Validator is distinct (name, digits, fields, named, none) =
    let same = (same_name row device.0 name is.digits digits is.fields fields).1 in
    none device.1 (subst (λ t. IsValidator t device.1) same is.number)
not_wrong found row device rest wrong.Again is distinct (other, also, number, at) =
    let same = one_device row device other is also in
    not_found found device rest number distinct
    (subst (λ (d : Device). validator_of found d.0 ≡ Some number) (sym same) at)

no_fault : (separator : Separator) (text : List ℕ) (devices : List Device) (number : ℕ)
    (why : WrongDevice) → AreDevices separator text devices
    → ¬ (IsDevicesFault separator text (fault.Row number why))
no_fault separator text devices number why is (its, is_its, bad) =
    let same = one_separator separator text is.its its is.is_its is_its in
    let there : AreDevicesBy its text devices =
    subst (λ s. AreDevicesBy s text devices) same is.are in
    let (more, all) = begins _ _ _ (device_head ∷ there.rows)
    (device_head ∷ (bad.before ++ bad.row ∷ [])) bad.records.state bad.records.left there.records
    bad.records.reached in
    let (heads, rows) = head_same device_head device_head there.rows
    ((bad.before ++ bad.row ∷ []) ++ more) all in
    let split : there.rows ≡ bad.before ++ bad.row ∷ more =
    rows ∙ append_assoc bad.before (bad.row ∷ []) more in
    let (device, rest, found, row) =
    valid_row bad.before bad.row more devices bad.devices
    (subst (λ rs. AllZip IsDeviceRow rs devices) split there.each) bad.each in
    not_wrong bad.devices bad.row device rest why row
    (subst (λ ds. IsDistinct bytes_eq (keys_of ds)) found there.once) bad.is_wrong

no_head_fault : (separator : Separator) (text : List ℕ) (devices : List Device)
    → AreDevices separator text devices → ¬ (IsDevicesFault separator text fault.Head)
no_head_fault separator text devices is none = by is.is_its
  where
    by : IsItsSeparator separator text is.its → ⊥
    by (inl (head, same)) = none.0 head
    by (inr (other, same)) =
        none.1 (subst (λ s. HasDeviceHead s text) same (has_head is.its text devices is.are))

-- so a fault of a device table is want of memory
pub want_of_memory : (separator : Separator) (text : List ℕ) (devices : List Device)
    (f : DevicesFault) → AreDevices separator text devices → IsDevicesFault separator text f
    → f ≡ fault.NoMemory
want_of_memory separator text devices fault.Head are is =
    absurd (no_head_fault separator text devices are is)
want_of_memory separator text devices (fault.Row number why) are is =
    absurd (no_fault separator text devices number why are is)
want_of_memory separator text devices fault.NoMemory are is = refl
