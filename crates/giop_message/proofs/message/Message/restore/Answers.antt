use Rattle.std.proofs.Common.{[], List, ℕ, Some, sym, ap, subst, ◌∙◌, append-nil, arith}
use Rattle.giop_message.specs.Headers.{minor}
use Rattle.giop_message.specs.Stored.{stored_id, PartStored, PartGoesOn}
use Rattle.giop_message.proofs.Storing.{there, not_both, behind_own, of_own, both, own_fields, same_own, goes_on, kept_again, id_on, stands_on}
use Rattle.giop_message.proofs.message.Message.restore.Goals as goal

pub returns-then-not-is_after_header-clause-again :
    goal.returns-then-not-is_after_header-clause-again
returns-then-not-is_after_header-clause-again c m fits same stored =
    let fields = own_fields m c.args.fixed.now stored.own in
    let at = c.eight_at-at.ensures m.at _ stored.own.at fields.at in
    let behind = c.is_after_header.ensures.1 (omega (arith, m.begun)) in
    absurd (not_both c.if-not-is_after_header.true behind)

pub returns-then-not-is_possible_lack-clause-again :
    goal.returns-then-not-is_possible_lack-clause-again
returns-then-not-is_possible_lack-clause-again c m fits same stored =
    let fields = own_fields m c.args.fixed.now stored.own in
    let lacks = c.octet_at-lacks.ensures _ _ fields.lacks in
    let few = c.is_possible_lack.ensures.1 (omega (arith, m.few, lacks)) in
    absurd (not_both c.if-not-is_possible_lack.true few)

pub returns-in_default-clause-again : goal.returns-in_default-clause-again
returns-in_default-clause-again c m fits same_header stored =
    let long = behind_own _ c.told-fixed in
    let octets = c.octets_at-octets.ensures _ [] long (sym (append-nil _)) in
    let version = c.minor_of.ensures ∙ ap minor (sym same_header) in
    let on = goes_on c.args.catalogue.now m _ _ _ _ _ _ _ fits stored
    c.eight_at-at.ensures c.octet_at.ensures octets version c.restore.ensures.again in
    absurd (there (λ p. PartGoesOn c.args.catalogue.now m.decoder m.part p.1 p.0) _ on
    c.in_default.not-Some)

pub returns-then-not-same-clause-again : goal.returns-then-not-same-clause-again
returns-then-not-same-clause-again c m fits same_header stored =
    let fields = own_fields m c.args.fixed.now stored.own in
    let long = behind_own _ c.told-fixed in
    let octets = c.octets_at-octets.ensures _ [] long (sym (append-nil _)) in
    let own = c.octets_at-own.ensures _ _ (of_own _ c.told-fixed) (both _) in
    let id = c.optional_at.ensures _ _ stored.own.id fields.id in
    let version = c.minor_of.ensures ∙ ap minor (sym same_header) in
    let on = goes_on c.args.catalogue.now m _ _ _ _ _ _
    (Some (c.in-Some.part, c.in-Some.decoder)) fits stored
    c.eight_at-at.ensures c.octet_at.ensures octets version c.in-Some.ensures.again in
    let is = same_own _ m
    (c.eight_at-at.ensures m.at _ stored.own.at fields.at)
    (c.octet_at-lacks.ensures _ _ fields.lacks)
    (c.in-Some.ensures.octet ∙ c.octet_at.ensures _ _ fields.part)
    (ap (stored_id c.in-Some.part) id ∙ kept_again _ _ _ m.part c.in-Some.part m.id on) in
    let same = c.same.ensures.1 (c.own_octets.ensures.is ∙ is ∙ sym stored.own.is ∙ sym own) in
    absurd (not_both c.if-not-same.true same)

pub returns-clause-stored : goal.returns-clause-stored
returns-clause-stored c =
    let frames = c.args.frames.now in
    let long = behind_own _ c.told-fixed in
    let octets = c.octets_at-octets.ensures _ [] long (sym (append-nil _)) in
    let own = c.octets_at-own.ensures _ _ (of_own _ c.told-fixed) (both _) in
    let same = c.same.ensures.0 c.if-not-same.false in
    let stored = c.in-Some.ensures.stored in
    record {
      own = record {
        is = sym own ∙ sym same ∙ c.own_octets.ensures.is;
        at = c.own_octets.ensures.at;
        id = c.own_octets.ensures.id;
      };
      part = subst (λ (xs : List ℕ). PartStored c.in-Some.decoder c.in-Some.part xs frames) octets
          stored;
    }

pub returns-clause-follows : goal.returns-clause-follows
returns-clause-follows c m fits same_number same_header stored answers phase number header s f =
    let fields = own_fields m c.args.fixed.now stored.own in
    let long = behind_own _ c.told-fixed in
    let octets = c.octets_at-octets.ensures _ [] long (sym (append-nil _)) in
    let id = c.optional_at.ensures _ _ stored.own.id fields.id in
    let version = c.minor_of.ensures ∙ ap minor (sym same_header) in
    let on = goes_on c.args.catalogue.now m _ _ _ _ _ _
    (Some (c.in-Some.part, c.in-Some.decoder)) fits stored
    c.eight_at-at.ensures c.octet_at.ensures octets version c.in-Some.ensures.again in
    record {
      same_number = sym same_number ∙ f.same_number;
      same_header = sym same_header ∙ f.same_header;
      id = id_on _ _ _ m.part c.in-Some.part m.id _ _ on id f.id;
      at = c.eight_at-at.ensures m.at _ stored.own.at fields.at ∙ f.at;
      counted = rw (
        c.octet_at-lacks.ensures _ _ fields.lacks,
        c.eight_at-at.ensures m.at _ stored.own.at fields.at,
      ) f.counted;
      stands = stands_on _ answers phase number header s m.decoder c.in-Some.decoder m.part
          c.in-Some.part on f.stands;
    }
