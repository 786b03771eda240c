-- After a stream fault, no octet adds a line or is counted.
use Rattle.std.proofs.Common.{◌≡◌, ℕ, List, [], ◌∷◌, ◌++◌, length, refl, ◌∙◌, sym, ap, append_assoc, Some, arith}
use Rattle.std.proofs.lemmas.List.{append-nil, length_push}
use Rattle.giop_checkpoint.specs.declared.fault.StreamFault.{StreamFault}
use Rattle.giop_stream.specs.Rules.{Rules}
use Rattle.giop_stream.specs.Framing.{Cut, cut, messages, octets_read}
use Rattle.giop_stream.specs.Events.{events_from, events}
use Rattle.giop_stream.specs.Lines.{lines}
use Rattle.giop_stream.specs.Stream.{text, totals_so_far}
use Rattle.giop_stream.proofs.Cuts.Cutting.{next_cut, parts_by, cut_grows, next_stopped}
use Rattle.giop_stream.proofs.Events.AfterMoreEvents.{message_lines_same, lines_stopped}
use Rattle.giop_stream.proofs.Cuts.OpenMessages.{early_events}

pub cut_stays : (p : List ℕ) (x : ℕ) (found : ℕ × StreamFault) → (cut p).stop ≡ Some found →
    cut (p ++ x ∷ []) ≡ cut p
cut_stays p x found h =
    let parts = parts_by (cut p) (cut p).current (Some found) refl h in
    cut_grows p x ∙ (ap (next_cut (length p) x) parts
    ∙ (next_stopped (cut p).whole (cut p).current (cut p).held found (length p) x ∙ sym parts))

one_stays : (R : Rules) (p : List ℕ) (x : ℕ) (found : ℕ × StreamFault) →
    (cut p).stop ≡ Some found → lines R (p ++ x ∷ []) ≡ lines R p
unfolding events
one_stays R p x found h =
    let p' = p ++ x ∷ [] in
    let same = cut_stays p x found h in
    let sd = message_lines_same R p p' (omega (arith, length_push p x))
    (ap (λ (c : Cut). events_from R [] (messages c)) same) (early_events R p) in
    lines_stopped R p' (Some found) (ap (λ (c : Cut). c.stop) same ∙ h)
    ∙ (rw sd refl ∙ sym (lines_stopped R p (Some found) h))

-- a stream fault stays
stop_stays : (p q : List ℕ) (found : ℕ × StreamFault) → (cut p).stop ≡ Some found →
    (cut (p ++ q)).stop ≡ Some found
stop_stays p [] found h = rw (append-nil p) h
stop_stays p (x ∷ q) found h = rw (← append_assoc p (x ∷ []) q)
    (stop_stays (p ++ x ∷ []) q found (ap (λ (c : Cut). c.stop) (cut_stays p x found h) ∙ h))

lines_stay : (R : Rules) (p q : List ℕ) (found : ℕ × StreamFault) →
    (cut p).stop ≡ Some found → lines R (p ++ q) ≡ lines R p
lines_stay R p [] found h = ap (lines R) (append-nil p)
lines_stay R p (x ∷ q) found h =
    rw (← append_assoc p (x ∷ []) q) (lines_stay R (p ++ x ∷ []) q found
    (ap (λ (c : Cut). c.stop) (cut_stays p x found h) ∙ h) ∙ one_stays R p x found h)

pub text_stays : (R : Rules) (p q : List ℕ) (found : ℕ × StreamFault) →
    (cut p).stop ≡ Some found → text R (p ++ q) ≡ text R p
unfolding text
text_stays R p q found h = search (arith, lines_stay)

pub tally_stays : (R : Rules) (p q : List ℕ) (found : ℕ × StreamFault) →
    (cut p).stop ≡ Some found → totals_so_far R (p ++ q) ≡ totals_so_far R p
unfolding totals_so_far octets_read
tally_stays R p q found h = search (arith, lines_stay, stop_stays)
