-- If the connections have a state, no packet was read yet.
use Rattle.std.proofs.Common.{◌≡◌, ap, ◌∙◌, arith}
use Rattle.giop_capture.specs.Arrivals.{after_packets, links_from, notices_from}
use Rattle.giop_capture.proofs.packets.PacketReader.new.Goals as goal

pub returns : goal.returns
unfolding after_packets links_from notices_from
returns g c = λ w state none told.
    let same : c.args.connections.segments ≡ 0 = ap (λ v. v.segments) state.same ∙ none in
    record {
      state = state;
      few = omega arith;
      all = c.new.ensures;
      told = told;
    }
