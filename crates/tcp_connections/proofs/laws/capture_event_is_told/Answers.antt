use Rattle.tcp_connections.specs.Connections.{with_capture_event}
use Rattle.tcp_connections.proofs.States.{told_capture}
use Rattle.tcp_connections.proofs.laws.capture_event_is_told.Goals as goal

pub returns : goal.returns
returns g c = record {
  state = λ before behind live known w event h o.
      told_capture (g.L.Listener.observed before) (g.L.Listener.observed behind) live known w event
      h o;
  holds = λ before behind live known w event h o. (
    with_capture_event w event,
    told_capture (g.L.Listener.observed before)
        (g.L.Listener.observed behind) live known w event h o,
  );
}
