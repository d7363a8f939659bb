-- The line of a ledger: twelve fields with a comma between each two, and a line feed.
use Rattle.ledger_fields.specs.{Fields.fits, Rows.Row, declared.field.Field.Field}
use Rattle.ledger_fields.specs.declared.field.Field.TheVariants.{LaterMoment, Moment, PastMoment}
use Rattle.ledger_fields.specs.declared.field.Field.TheVariants.{Reason, Ride, Token, Word}
use Rattle.ledger_fields.specs.declared.form.RowFields.{RowFields}
use Rattle.line_forms.specs.{Columns.column_where, Forms.Reader, Forms.after_read, Forms.said_by}
use Rattle.line_forms.specs.{Forms.then_read, Numbers.number_at}
use Rattle.std.specs.Prelude.{◌^◌, ℕ, List, Option, codes, option_map}

-- a comma, and a field
abbrev pub next_field : Field → Reader (List ℕ)
next_field field = after_read (codes ",") (column_where (fits field))

-- a comma, and a number below a bound
abbrev pub next_number : ℕ → Reader ℕ
next_number bound = after_read (codes ",") (number_at bound)

-- the token, the number, the moment, the validator, the mode, the answer, the cents, the window's
-- start and end, the ride, the reason, and the moment to which it points
abbrev pub LineFields : Type 0
LineFields =
    List ℕ × (ℕ × (List ℕ × (ℕ × (List ℕ × (List ℕ × (ℕ
    × (List ℕ × (List ℕ × (List ℕ × (List ℕ × List ℕ))))))))))

-- THE form of a ledger's line, before its line feed
abbrev pub line_fields : Reader LineFields
line_fields =
    then_read (column_where (fits Token)) (then_read (next_number (2 ^ 64)) (then_read (next_field Moment)
    (then_read (next_number (2 ^ 32)) (then_read (next_field Word) (then_read (next_field Word)
    (then_read (next_number (2 ^ 32)) (then_read (next_field PastMoment)
    (then_read (next_field LaterMoment) (then_read (next_field Ride)
    (then_read (next_field Reason) (next_field PastMoment)))))))))))

-- what corrections and merged parts look at
abbrev pub row_of_line : LineFields → Row
row_of_line fields = record {
  key = record {
    token = fields.0;
    moment = fields.1.1.0;
    validator = fields.1.1.1.0;
  };
  charge = record {
    answer = fields.1.1.1.1.1.0;
    cents = fields.1.1.1.1.1.1.0;
    reason = fields.1.1.1.1.1.1.1.1.1.1.0;
  };
}

-- the row of a line, if it has the form of a ledger's line
abbrev pub row_in : List ℕ → Option Row
row_in line = option_map row_of_line (said_by line_fields line)

-- the row that the fields make
abbrev pub row_of_fields : RowFields → Row
row_of_fields fields = record {
  key = record {
    token = fields.token.now;
    moment = fields.moment.now;
    validator = fields.validator;
  };
  charge = record {
    answer = fields.answer.now;
    cents = fields.cents;
    reason = fields.reason.now;
  };
}
