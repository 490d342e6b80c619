-- Document 01, 'Chart rules and limits': the limits, as one record that every definition takes.
use Rattle.definition.specs.declared.Limits.{Limits}

-- Document 01's own numbers. `Chart::limits` is proved to give them from the chart type's constants.
abbrev pub limits01 : Limits
limits01 =
    record {
      name = 64;
      attributes = 16;
      key = 64;
      value = 1024;
      text = 4096;
      opened = 32;
      states = 256;
      transitions = 512;
      regions = 512;
      entries = 2048;
      invokes = 64;
      datums = 256;
      parameters = 512;
      members = 4096;
      drawn = 65535;
      charge = 65535;
    }
