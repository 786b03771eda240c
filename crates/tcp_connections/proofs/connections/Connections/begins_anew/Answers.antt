use Rattle.std.proofs.Common.{Bool, ◌||◌, Option, sym, ap, ◌∙◌}
use Rattle.tcp_segment.specs.Segments.{segment_view}
use Rattle.tcp_connections.specs.declared.syns.KeptSyn.{KeptSyn}
use Rattle.tcp_connections.specs.Connections.{begins_anew, follows_syn}
use Rattle.tcp_connections.proofs.connections.Connections.begins_anew.Goals as goal

pub returns-then-answers_syn : goal.returns-then-answers_syn
unfolding begins_anew
returns-then-answers_syn c =
    let V = segment_view c.args.segment in
    c.if-answers_syn.true ∙ sym (ap (λ (b : Bool). b || follows_syn c.in-Some.syn c.args.id V)
    (sym c.answers_syn.ensures ∙ c.if-answers_syn.true))
    ∙ sym (ap (λ (o : Option KeptSyn). begins_anew o c.args.id V) (sym c.at.ensures ∙ c.in-Some.is))

pub returns-else-answers_syn : goal.returns-else-answers_syn
unfolding begins_anew
returns-else-answers_syn c =
    let V = segment_view c.args.segment in
    c.follows_syn.ensures ∙ sym (ap (λ (b : Bool). b || follows_syn c.in-Some.syn c.args.id V)
    (sym c.answers_syn.ensures ∙ c.if-answers_syn.false))
    ∙ sym (ap (λ (o : Option KeptSyn). begins_anew o c.args.id V) (sym c.at.ensures ∙ c.in-Some.is))

pub returns-in-None : goal.returns-in-None
unfolding begins_anew
returns-in-None c = sym (ap (λ (o : Option KeptSyn). begins_anew o c.args.id (segment_view
    c.args.segment))
    (sym c.at.ensures ∙ c.in-None.is))
