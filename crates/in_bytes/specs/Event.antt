-- An event as bytes (docs/BYTES.md): all its numbers, those of a call from its sequence on. It fits as in the call that has this event and else zeros (crate host).
use Rattle.std.specs.Prelude.{◌^◌}
use Rattle.host.specs.Layout as layout
pub use Rattle.host.specs.Read.{event_fits}
unfoldable pub use Rattle.host.specs.Read.{event_call}
use Rattle.codec.specs.Stages.{Shape, numbers}

unfoldable pub event : Shape
event = numbers (2 ^ 64) layout.event_length
