-- What contracts see of a tariff.
use Rattle.tariffs.specs.{ClockView.ClockView, TableMeaning.TableMeaning}

-- what the text means, and what its clocks go by: the rule that the zone's text reads as
pub record TariffView : Type 0 where
  pub meaning : TableMeaning
  pub zone : ClockView
