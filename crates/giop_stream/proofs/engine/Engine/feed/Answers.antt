use Rattle.std.proofs.Common.{◌≡◌, List, ℕ, ◌++◌, ◌<◌, ◌≤◌, ◌⊎◌, inl, inr, length, take, drop, true, false, Err, take_all, sym, ap, subst, ◌∙◌}
use Rattle.std.proofs.lemmas.Bool.{cases_lt, false≢true}
use Rattle.std.proofs.lemmas.List.{take-append-drop}
use Rattle.giop_print.proofs.Writing.{front-append}
use Rattle.giop_print.specs.Output.{OutLog}
use Rattle.giop_message.proofs.MessageLaws.{is_causal}
use Rattle.giop_message.specs.Signatures.{RequestTable, by_list, signatures_of}
use Rattle.giop_stream.specs.declared.fault.Stop.{Stop}
use Rattle.giop_stream.specs.declared.fault.Stop.TheVariants as stop
use Rattle.giop_stream.specs.declared.status.Fed.{Fed}
use Rattle.giop_stream.specs.declared.status.Status.{Status}
use Rattle.giop_stream.specs.EngineView.{EngineView}
use Rattle.giop_stream.specs.EngineHolds.{HoldsBy, StopWrites, added, rules_of}
use Rattle.giop_stream.proofs.SlotSteps.Parts.{in_turn}
use Rattle.giop_stream.proofs.StreamLines.MoreOctets.{added_both}
use Rattle.giop_stream.proofs.CodeSteps.HeaderEndSteps.{list_notified}
use Rattle.giop_stream.proofs.engine.Engine.feed.Goals as goal

-- if a correspondent is never due, all octets are taken
all_taken : (n : ℕ) (piece : List ℕ) → (n < length piece → false ≡ true) → take n piece ≡ piece
all_taken n piece f = go (cases_lt n (length piece))
  where
    go : (n < length piece) ⊎ (length piece ≤ n) → take n piece ≡ piece
    go (inl less) = absurd (false≢true (f less))
    go (inr most) = take_all n piece most

-- a front of what was due is a front of more
stop_front : (A B : Type 0) (e : Stop) (a b : OutLog) (x y : List ℕ) →
    StopWrites {A = A} (Err e) a b x → StopWrites {A = B} (Err e) a b (x ++ y)
stop_front A B (stop.Out f) a b x y w = front-append a b x y w
stop_front A B stop.Failed a b x y w = w

pub returns-in-Ok-clause-held : goal.returns-in-Ok-clause-held
returns-in-Ok-clause-held g c p h =
    let e = list_notified c.args.self.now.table _ c.args.self.now.request_table _
    (ap (λ (e : EngineView). e.request_table) c.self.view_is) in
    let l = by_list c.args.self.now.request_table in
    let whole : take c.in-Ok.fed.count c.args.piece.now ≡ c.args.piece.now =
    all_taken c.in-Ok.fed.count c.args.piece.now (c.in-Ok.ensures.last l p h e) in
    subst (λ (k : RequestTable).
    HoldsBy c.feed_by.new.self (by_list k) (p ++ c.args.piece.now))
    (sym c.in-Ok.ensures.same.1) (rw whole at (c.in-Ok.ensures.held l p h e))

pub returns-in-Ok-clause-text : goal.returns-in-Ok-clause-text
unfolding added
returns-in-Ok-clause-text g c p h =
    let e = list_notified c.args.self.now.table _ c.args.self.now.request_table _
    (ap (λ (e : EngineView). e.request_table) c.self.view_is) in
    let l = by_list c.args.self.now.request_table in
    let whole : take c.in-Ok.fed.count c.args.piece.now ≡ c.args.piece.now =
    all_taken c.in-Ok.fed.count c.args.piece.now (c.in-Ok.ensures.last l p h e) in
    let t = c.in-Ok.ensures.text l p h e in
    rw (← t.counted, whole) at t.all

pub returns-in-Ok-clause-status : goal.returns-in-Ok-clause-status
returns-in-Ok-clause-status g c p h =
    let e = list_notified c.args.self.now.table _ c.args.self.now.request_table _
    (ap (λ (e : EngineView). e.request_table) c.self.view_is) in
    let l = by_list c.args.self.now.request_table in
    let whole : take c.in-Ok.fed.count c.args.piece.now ≡ c.args.piece.now =
    all_taken c.in-Ok.fed.count c.args.piece.now (c.in-Ok.ensures.last l p h e) in
    rw whole at (c.in-Ok.ensures.status l p h e)

pub returns-in-Err-clause-text : goal.returns-in-Err-clause-text
unfolding added
returns-in-Err-clause-text g c p h =
    let e = list_notified c.args.self.now.table _ c.args.self.now.request_table _
    (ap (λ (e : EngineView). e.request_table) c.self.view_is) in
    let l = by_list c.args.self.now.request_table in
    let t = c.in-Err.ensures.text l p h e in
    let R = rules_of c.args.self.now in
    let piece = c.args.piece.now in
    let both : added R p piece
    ≡ added R p (take t.n piece) ++ added R (p ++ take t.n piece) (drop t.n piece) =
    ap (added R p) (sym (take-append-drop t.n piece))
    ∙ added_both R (is_causal (λ phase number. signatures_of c.args.self.now.table (l number)
    phase))
    (in_turn c.args.self.now.table l) p (take t.n piece) (drop t.n piece) in
    subst (StopWrites {A = Status} (Err c.in-Err.stop) (g.O.Out.log c.args.out.now)
    (g.O.Out.log c.feed_by.new.out)) (sym both)
    (stop_front Fed Status c.in-Err.stop _ _ (added R p (take t.n piece))
    (added R (p ++ take t.n piece) (drop t.n piece)) t.all)
