use Rattle.std.proofs.Common.{◌≡◌, ◌∙◌, [], Some, ap, arith, length}
use Rattle.csv.specs.Records.{fields_of}
use Rattle.tap_rows.proofs.AgencyRowLemmas.{field_there}
use Rattle.tap_rows.proofs.DeviceLemmas.{empty_name, some_name, two_fields}
use Rattle.tap_rows.proofs.devices.table.device_in.Goals as goal

pub returns-then-is_empty-clause-wrong : goal.returns-then-is_empty-clause-wrong
returns-then-is_empty-clause-wrong c = λ devices.
    let row = fields_of c.args.row.now in
    let long : length row ≡ 2 = omega (arith, c.len.ensures, c.if-len-ne2.false) in
    let none = empty_name c.field_in-name.result.now c.is_empty.result c.is_empty.ensures
    c.if-is_empty.true in
    let first = c.field_in-name.ensures.there (omega (arith, long)) ∙ ap Some none in
    let (digits, second) = field_there row 1 (omega (arith, long)) in
    (digits, two_fields row [] digits long first second)

pub returns-in_default-clause-wrong : goal.returns-in_default-clause-wrong
returns-in_default-clause-wrong c = λ devices.
    let row = fields_of c.args.row.now in
    let long : length row ≡ 2 = omega (arith, c.len.ensures, c.if-len-ne2.false) in
    let name = c.field_in-name.result.now in
    let digits = c.field_in.result.now in (
      name,
      digits,
      two_fields row name digits long (c.field_in-name.ensures.there (omega (arith, long)))
          (c.field_in.ensures.there (omega (arith, long))),
      some_name name c.is_empty.result c.is_empty.ensures c.if-is_empty.false,
      c.in_default.ensures,
    )

pub returns-clause-device : goal.returns-clause-device
returns-clause-device c =
    let row = fields_of c.args.row.now in
    let long : length row ≡ 2 = omega (arith, c.len.ensures, c.if-len-ne2.false) in
    let name = c.field_in-name.result.now in
    let digits = c.field_in.result.now in
    record {
      digits = digits;
      fields = two_fields row name digits long (c.field_in-name.ensures.there (omega (arith, long)))
          (c.field_in.ensures.there (omega (arith, long)));
      named = some_name name c.is_empty.result c.is_empty.ensures c.if-is_empty.false;
      number = c.in-Some.ensures;
    }
