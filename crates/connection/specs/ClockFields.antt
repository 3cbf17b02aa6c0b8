-- A clock's fields as its contents.
use Rattle.connection.specs.declared.clock.Clock.TheInside.{Inside}
use Rattle.connection.specs.ClockContents.{Contents}

abbrev pub contents_of : Inside → Contents
contents_of c =
    record {
      timing = c.timing;
      opened = c.opened;
      last = c.last;
      interval_start = c.interval_start;
      ping = c.ping;
      joined = c.joined;
      transport = c.transport;
    }
