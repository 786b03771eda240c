use Rattle.std.proofs.Common.{◌≡◌, ◌*◌, ◌++◌, ℕ, List, length, take, drop, sym, ap, subst, ◌∙◌}
use Rattle.std.proofs.lemmas.List.{drop_at, take_at}
use Rattle.giop_decode.specs.Stored.{frame_size}
use Rattle.giop_message.specs.Headers.{minor}
use Rattle.giop_message.specs.Stored.{AreOwnOctets, PartStored}
use Rattle.giop_message.proofs.Storing.{own_long}
use Rattle.giop_message.proofs.message.Message.store.Goals as goal

pub returns-clause-stored : goal.returns-clause-stored
returns-clause-stored c C fits =
    let m = c.args.self.now in
    let own = c.own_octets-own.result in
    let part = c.store-count.new.octets in
    let frames : List ℕ = take (frame_size * c.store-count.result) c.store-count.new.frames in
    let put = c.put_octets.ensures.put ∙ ap (λ (xs : List ℕ). xs ++ own) c.new-out.ensures in
    let both : c.copy_from_slice.new.self ≡ own ++ part =
    c.copy_from_slice.ensures.after
    ∙ c.as_slice.ensures.value
    ∙ c.put_octets-2.ensures.put
    ∙ ap (λ (xs : List ℕ). xs ++ part) put in
    let long : length own ≡ 16 = ap length c.own_octets-own.ensures.is ∙ own_long m in
    let front = ap (take 16) both ∙ take_at own part 16 long in
    let behind = ap (drop 16) both ∙ drop_at own part 16 long in
    let stored = c.store-count.ensures.stored C (minor m.header) m.at fits in
    record {
      own = subst (λ (xs : List ℕ). AreOwnOctets xs m) (sym front) c.own_octets-own.ensures;
      part = subst (λ (xs : List ℕ). PartStored m.decoder m.part xs frames) (sym behind) stored;
    }

pub returns-clause-depth : goal.returns-clause-depth
returns-clause-depth c C fits =
    c.store-count.ensures.depth C (minor c.args.self.now.header) c.args.self.now.at fits
