-- What each event of a flow keeps, the flow keeps while it takes payloads and closes.
use Rattle.std.proofs.Common.{◌≡◌, ℕ, true, cond, nat_eq, List, length, Option, None, Some, is_some}
use Rattle.std.specs.List.{remove}
use Rattle.tcp_waiting.specs.Payload.{Payload}
use Rattle.tcp_flow.specs.declared.flow.CloseCause.{CloseCause}
use Rattle.tcp_flow.specs.declared.flow.CloseCause.TheVariants.{Fault}
use Rattle.tcp_flow.specs.declared.tail.Tail.{Tail}
use Rattle.tcp_flow.specs.Flow.{Flow, CaptureEvent, OfCapture, ComesFrom, Passes, Reader, lives, without_old_octets, with_event, stream_closed, closed_at_fault, number_after_octet, delivered_unchecked, delivered, started, begun_if_awaited, looked_through, tail_continued_by, with_arrival_told, taken, at, closed, out_of_step, awaiting_stream}
use Rattle.tcp_flow.proofs.Preserving.{either, StepsKeep}
use Rattle.tcp_flow.proofs.Tails.{looked_by}

pub record EventsKeep (Property : Flow → Type 0) : Type 0 where
  pub tells : (g : Flow) (e : CaptureEvent) → Property g → Property (with_event g (OfCapture e))
  pub begins : (g : Flow) (n : ℕ) → Property g → Property (started g n)
  pub delivers : (g : Flow) (p : Payload) → Property g → Property (delivered_unchecked g p)
  pub closes : (g : Flow) (n : ℕ) (cause : CloseCause) → Property g →
      Property (stream_closed g n cause)
  pub idles : (g : Flow) → Property g → Property (out_of_step g)
  pub tails : (g : Flow) (t : Option Tail) → Property g → Property (record g { tail = t })

module _ (P : Flow → Type 0) (k : EventsKeep P) where
  checked_kept : (g : Flow) (r : Option ℕ) → P g → P (closed_at_fault g r)
  unfolding closed_at_fault
  checked_kept g None t = t
  checked_kept g (Some at) t = k.closes g (number_after_octet g at) Fault t

  delivered_kept : (F : Reader) (g : Flow) (p : Payload) → P g → P (delivered F g p)
  unfolding delivered
  delivered_kept F g p t =
      checked_kept (delivered_unchecked g p) (F.faulted (delivered_unchecked g p).events)
      (k.delivers g p t)

  pub closed_kept : (g : Flow) (cause : CloseCause) → P g → P (closed g cause)
  unfolding closed
  closed_kept g cause t =
      either P (lives g.live g.waits) (stream_closed g g.next cause) (out_of_step g)
      (k.closes g g.next cause t) (k.idles g t)

  pub taken_kept : (F : Reader) (g : Flow) (p : Payload) → P g → P (taken F g p)
  unfolding taken with_arrival_told
  taken_kept F g p t =
      let q : Payload = without_old_octets g.next (is_some g.live) p in
      let h : Flow = with_event g (OfCapture (ComesFrom p.arrival)) in
      let u : P h = k.tells g (ComesFrom p.arrival) t in
      let r : Flow = begun_if_awaited h in
      let d : Flow = delivered F r q in
      let o : Option Tail = tail_continued_by g.tail q.number q.octets in
      let b : Flow = looked_through F h q o in
      either P (nat_eq (length q.octets) 0) g (cond (is_some g.live) d b) t
      (either P (is_some g.live) d b
      (delivered_kept F r q (either P h.waits (started h h.next) h (k.begins h h.next u) u))
      (looked_by F P (λ f p v. delivered_kept F f p v) (λ f n v. k.begins f n v)
      (λ f t xs v. k.tells (record f { tail = t }) (Passes xs) (k.tails f t v)) h q o u))

  -- if the flow may wait, and whatever it holds
  pub events_keep : (F : Reader) → ((g : Flow) (count : ℕ) → lives g.live g.waits ≡ true → P g →
      P (awaiting_stream g count)) →
      ((g : Flow) (ps : List Payload) (fin : Option ℕ) → P g →
      P (record g { held = ps; fin = fin })) → StepsKeep F P
  events_keep F waits holds = record {
    takes = λ f i e d t. taken_kept F (record f { held = remove f.held i }) (at f i)
        (holds f (remove f.held i) f.fin t);
    closes = λ f cause t. closed_kept f cause t;
    waits = waits;
    fins = λ f n t. holds f f.held n t;
  }
