-- What holds of the parts of every tariff, and what contracts see of them.
use Rattle.std.specs.Map.{values_of}
use Rattle.std.specs.Prelude.{◌≡◌, ◌<◌, ◌≤◌, true, All, length, map, string_bytes}
use Rattle.tariffs.specs.{Prices.IsBoundedPrice, TariffView.TariffView, Terms.IsBoundedClass}
use Rattle.tariffs.specs.Validators.{are_modes_below}
use Rattle.tariffs.specs.WindowSpan.{IsBoundedLength, IsBoundedSpan}
use Rattle.tariffs.specs.{Zone.zone_rule, Zone.zone_text, declared.tariff.TariffParts.TariffParts}

-- what contracts see of the parts of a tariff
abbrev pub view_of : TariffParts → TariffView
view_of parts = record {
  meaning = record {
    modes = map string_bytes parts.modes.items;
    transfers = parts.transfers;
    prices = parts.prices.items;
    classes = parts.classes.items;
    names = map string_bytes parts.names.items;
    caps = parts.caps.items;
    cap_names = map string_bytes parts.cap_names.items;
    standard = parts.standard;
    ranges = parts.ranges;
    riders = parts.riders;
    zone = zone_text parts.zone;
    window = parts.window;
  };
  zone = record { rule = zone_rule parts.zone };
}

-- at most 32 modes and three caps, ranges of modes of the tariff, prices, classes and days of
-- windows within their bounds, a name of each class and cap, and places that have a class
pub record AreSound (parts : TariffParts) : Type 0 where
  pub few : length parts.modes.items ≤ 32
  pub known : are_modes_below (length parts.modes.items) parts.ranges ≡ true
  pub prices : All IsBoundedPrice parts.prices.items
  pub classes : All IsBoundedClass parts.classes.items
  pub named : length parts.names.items ≡ length parts.classes.items
  pub caps : All (λ cap. IsBoundedLength cap.length) parts.caps.items
  pub few_caps : length parts.caps.items ≤ 3
  pub caps_named : length parts.cap_names.items ≡ length parts.caps.items
  pub standard : parts.standard < length parts.classes.items
  pub window : IsBoundedSpan parts.window
  pub riders : All (λ position. position < length parts.classes.items) (values_of parts.riders)
