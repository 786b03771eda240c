use Rattle.std.proofs.Common.{◌≡◌, ℕ, ◌+◌, ◌++◌, ◌∷◌, [], length, map, List, append_assoc, sym, ap, ◌∙◌, arith}
use Rattle.std.proofs.lemmas.List.{length-append, map-append, append-nil}
use Rattle.std.proofs.lemmas.List.Elements.{All-push}
use Rattle.giop_sig.specs.RequestList.{lines, IsEntry, line_of, Entry, merged_asked}
use Rattle.giop_sig.specs.RequestViews.{words_view}
use Rattle.giop_sig.proofs.ListKept.{kept_step, kept_view}
use Rattle.giop_sig.proofs.ListOrder.{keys_step, asked_is}
use Rattle.giop_sig.proofs.requests.read_lines.Goals as goal

spelled_more : (es : List Entry) (e : Entry) (all after : List (List ℕ)) (line : List ℕ)
    → line ≡ line_of e → all ≡ map line_of es ++ (line ∷ after)
    → all ≡ map line_of (es ++ e ∷ []) ++ after
spelled_more es e all after line is h =
    h ∙ ap (λ l. map line_of es ++ (l ∷ after)) is
    ∙ sym (append_assoc (map line_of es) (line_of e ∷ []) after)
    ∙ ap (λ ls. ls ++ after) (sym (map-append line_of es (e ∷ [])))

pub loop-line-preserved : goal.loop-line-preserved
loop-line-preserved c =
    let i = c.loop-line.invariant in
    let e : Entry = record {
      id = c.in-Some-line_entry.id;
      asked = words_view
          c.in-Some-line_entry.words;
    } in
    let h = c.in-Some-line_entry.ensures in
    let longer : length (i.es ++ e ∷ []) ≡ length i.es + 1 = length-append i.es (e ∷ []) in
    let joins = c.merged_asked-one.ensures ∙ ap
    (λ k. merged_asked (kept_view k) e.asked) c.get.ensures.value in
    record {
      es = i.es ++ e ∷ [];
      entries = All-push (IsEntry c.args.third_word) i.es e i.entries h.0;
      spelled = spelled_more i.es e _ _ c.in-Some.line.now h.1
          (i.spelled ∙ ap (λ ls. map line_of i.es ++ ls) c.in-Some.ensures.lines);
      counted = omega (arith, i.counted, longer);
      few = omega (arith, i.few);
      unique = c.in_ok-insert.ensures.unique;
      keys = keys_step i.es e c.loop-line.asked.entries _ c.merged_asked-one.result i.keys
          c.in_ok-insert.ensures.entries;
      kept = kept_step i.es e c.loop-line.asked.entries c.insert.new.self.entries
          c.merged_asked-one.result joins i.kept c.in_ok-insert.ensures.updates.0;
    }

pub returns-clause-ok : goal.returns-clause-ok
returns-clause-ok c =
    let i = c.loop-line.invariant in
    let done : c.loop-line.rest.now ≡ [] = c.in_default.ensures.lines in (
      i.es,
      record {
        octets = omega arith;
        count = omega (arith, i.counted, i.few);
        entries = i.entries;
        spelled = i.spelled ∙ ap (λ r. map line_of i.es ++ lines r) done
            ∙ append-nil (map line_of i.es);
      },
      asked_is i.es c.loop-line.asked.entries i.unique i.keys i.kept,
    )
