-- For each correspondent there are `Answers` that agree with it at each header that ends in octets
-- after a stream.
use Rattle.std.proofs.Common.{inl, inr, ◌⊎◌, ◌≡◌, ℕ, ◌<◌, Bool, true, false, List, [], ◌∷◌, ◌++◌, length, refl, sym, ap, subst, ◌∙◌, append-nil, Option, Some, None, arith}
use Rattle.std.specs.Prelude.{◌==◌, if◌then◌else◌}
use Rattle.std.specs.List.{AllByRecursion as Each}
use Rattle.std.proofs.lemmas.Bool.{cases_lt, eq-eqb, eqb-true}
use Rattle.giop_sig.specs.Table.{Table}
use Rattle.giop_decode.specs.Noted.{Noted}
use Rattle.giop_message.specs.Signatures.{Answer, Answers, signatures_of}
use Rattle.giop_message.specs.HeaderEnds.{HeaderEnd, CallEvent, Header_end, Exception_end, header_noted, call_event, after_event, AgreesAtEnds}
use Rattle.giop_message.proofs.MessageLaws.{one_octet, is_causal}
use Rattle.giop_stream.specs.Rules.{Rules, rules_by}
use Rattle.giop_stream.specs.EngineView.{EngineView}
use Rattle.giop_stream.specs.EngineHolds.{HoldsBy}
use Rattle.giop_stream.specs.Framing.{CutMessage, limit, cut, messages}
use Rattle.giop_stream.specs.Events.{Takes, MessageKey, Event, events_from, events, octets_of_event, before_by}
use Rattle.giop_stream.specs.Lines.{Kept, kept_of}
use Rattle.giop_stream.specs.OpenSlots.{known_of, tracked_after}
use Rattle.giop_stream.specs.Effects.{event}
use Rattle.giop_stream.specs.Octet.{OctetKind, AfterStop, Ends, Held, Of, octet_of}
use Rattle.giop_stream.specs.EngineState.{owner_of_next}
use Rattle.giop_stream.specs.HeaderEndsOfStream.{header_ends_at, header_ends_from}
use Rattle.giop_stream.specs.AnswersAgree.{AnswersAgree, AnswersAlike, AgreeAtHeaders}
use Rattle.giop_stream.proofs.Lists.{by_growth, each_append, each_weaker, all_by}
use Rattle.giop_stream.proofs.Cuts.Cutting.{cut_of_parts, parts_by, cut_stopped_at}
use Rattle.giop_stream.proofs.Cuts.Numbers.{header_of_number}
use Rattle.giop_stream.proofs.Events.Soundness.{IsSound}
use Rattle.giop_stream.proofs.SlotSteps.Parts.{in_turn, owner_next}
use Rattle.giop_stream.proofs.CodeSteps.OneOctet.{IsStateThen, kept_is, then_is, paid_events}
use Rattle.giop_stream.proofs.CodeSteps.KeptOn.{kept_after_events, kept_on_append, kept_of_on, noted_in_kept, on_before, quiet_on}
use Rattle.giop_stream.proofs.CodeSteps.EngineAlive.{sound}
use Rattle.giop_stream.proofs.CodeSteps.OutsideMessages.{within_limit}
use Rattle.giop_stream.proofs.CodeSteps.StreamAgreement.{each_parts, of_owner, one_header}
use Rattle.giop_stream.proofs.CodeSteps.AgreementAtHeaders.{takes_of, split, alike, next_same, ends_at_alike, held_alike}
use Rattle.giop_stream.proofs.CodeSteps.HeaderEndSteps.{at_free, at_none, at_stop, at_limit, from_append, from_one}

module _ (C : Table) (most : ℕ) where
  abbrev R : (answers : Answers) → Rules
  R a = rules_by C a most

  -- by these events, two answers agree for this message, or its header has not ended
  abbrev AgreeAt : (es : List Event) (f g : Answers) (key : MessageKey) → Type 0
  AgreeAt es f g w = (f w.number ≡ g w.number)
      ⊎ (noted_in_kept w.header (kept_of w.number es) ≡ None)

  sound_by : (a : Answers) (p : List ℕ) → IsSound (R a) p
  sound_by a =
      sound (R a) (is_causal (λ phase number. signatures_of C (a number) phase)) (in_turn C a)

  -- a longer stream has more events
  more_events : (a : Answers) (p : List ℕ) (x : ℕ) → (more : List Event)
      × (events (R a) (p ++ x ∷ []) ≡ events (R a) p ++ more)
  unfolding events cut_stopped_at cut_of_parts messages
  more_events a p x = go (octet_of (cut p) (length p) x)
      (then_is (R a) (is_causal (λ phase number. signatures_of C (a number) phase)) (in_turn C a)
      p x (sound_by a p))
    where
      none : messages (cut (p ++ x ∷ [])) ≡ messages (cut p) → (more : List Event)
          × (events (R a) (p ++ x ∷ []) ≡ events (R a) p ++ more)
      none same = ([], ap (events_from (R a) []) same ∙ sym (append-nil (events (R a) p)))

      go : (o : OctetKind) → IsStateThen (R a) p x o → (more : List Event)
          × (events (R a) (p ++ x ∷ []) ≡ events (R a) p ++ more)
      go AfterStop h = none (ap messages h.2.cut_is)
      go (Ends fault) h = none (ap messages h.1.cut_is)
      go (Held front) h = search (arith, none)
      go (Of now) h = (_, h.1.grows)

  -- ---- answers that agree for a longer stream agree for a front of it

  at_before : (w : MessageKey) (es more : List Event) (a b : Answers) → AgreeAt (es ++ more) a b w →
      AgreeAt es a b w
  at_before w es more a b (inl k) = inl k
  at_before w es more a b (inr k) = inr (on_before w.number w.header more (kept_of w.number es)
      (ap (noted_in_kept w.header) (sym (kept_of_on w.number more es)) ∙ k))

  agree_back : (p : List ℕ) (x : ℕ) (a b : Answers) → AnswersAgree C most (p ++ x ∷ []) a b →
      AnswersAgree C most p a b
  agree_back p x a b h =
      let es = events (R a) p in
      let more = more_events a p x in
      let parts = each_parts (λ e. AgreeAt (es ++ more.0) a b e.subject) es more.0
      (subst (λ (z : List Event). Each (λ e. AgreeAt z a b e.subject) z) more.1 h) in
      each_weaker (λ e. AgreeAt (es ++ more.0) a b e.subject) (λ e. AgreeAt es a b e.subject)
      (λ e k. at_before e.subject es more.0 a b k) es parts.0

  agree_self : (p : List ℕ) (a : Answers) → AnswersAgree C most p a a
  agree_self p a = all_by (λ e. AgreeAt (events (R a) p) a a e.subject) (λ e. inl refl)
      (events (R a) p)

  -- ---- the header that ends in the next octet

  record EndsHere (answers : Answers) (p : List ℕ) (octet : ℕ) : Type 0 where
    m : CutMessage
    w : MessageKey
    kept : Kept
    n : Noted
    free : (cut p).stop ≡ None
    room : length p < limit
    current : (cut p).current ≡ Some m
    owner : owner_of_next (before_by (R answers) (events (R answers) p)) m ≡ Some w
    known : known_of (R answers) p w.number ≡ Some kept
    before : noted_in_kept w.header kept ≡ None
    now : header_noted kept.phase w.header (kept.octets ++ octet ∷ []) ≡ Some n
    ends : header_ends_at (R answers) p octet ≡ Header_end w.number w.header n ∷ []

  -- the name of an exception that ends in the next octet
  record NamesHere (answers : Answers) (stream : List ℕ) (octet : ℕ) : Type 0 where
    number : ℕ
    name : List ℕ
    ends : header_ends_at (R answers) stream octet ≡ Exception_end number name ∷ []

  abbrev Here : (answers : Answers) (stream : List ℕ) (octet : ℕ) → Type 0
  Here a p x = (header_ends_at (R a) p x ≡ []) ⊎ (EndsHere a p x ⊎ NamesHere a p x)

  ends_case : (a : Answers) (p : List ℕ) (x : ℕ) → Here a p x
  unfolding tracked_after
  ends_case a p x = search (arith, one_octet, at_none, at_free, at_stop, cases_lt, at_limit)

  module _ (a : Answers) (p : List ℕ) (x : ℕ) (h : EndsHere a p x) where
    abbrev Now : List Event
    Now = events (R a) (p ++ x ∷ [])

    -- after the octet, the header of its owner has ended
    noted_now : noted_in_kept h.w.header (kept_of h.w.number Now) ≡ Some h.n
    unfolding limit takes_of kept_after_events octets_of_event
    noted_now =
        let b = before_by (R a) (events (R a) p) in
        let i = h.w.number in
        let room = h.room in
        let grown = paid_events (R a) (is_causal (λ phase number. signatures_of C (a number) phase))
        (in_turn C a) p x (sound_by a p) (cut p).whole h.m (cut p).held
        (parts_by (cut p) (Some h.m) None h.current h.free)
        (within_limit (length p) (omega (arith, room))) in
        let parts = split most b h.m x in
        let owner = owner_next b h.m x ∙ h.owner in
        let takes = event parts.at h.w (Takes x) ∷ [] in
        let all : Now ≡ events (R a) p ++ (takes ++ parts.rest) =
        grown ∙ ap (λ (es : List Event). events (R a) p ++ es) (parts.is
        ∙ ap (λ (w : Option MessageKey). takes_of parts.at w x ++ parts.rest) owner) in
        let kept : kept_of i Now ≡ kept_after_events i (kept_after_events i h.kept takes) parts.rest
        =
        ap (kept_of i) all ∙ (kept_of_on i (takes ++ parts.rest) (events (R a) p)
        ∙ (ap (λ (k : Kept). kept_after_events i k (takes ++ parts.rest))
        (sym (kept_is (R a) p i h.kept h.known))
        ∙ kept_on_append i takes parts.rest h.kept)) in
        ap (noted_in_kept h.w.header) kept
        ∙ (quiet_on i h.w.header parts.rest (kept_after_events i h.kept takes) (parts.quiet i)
        ∙ rw (eq-eqb i i refl) h.now)

    -- if answers agree after the octet, they agree for the message of the octet
    agree_for : (b c : Answers) → events (R b) (p ++ x ∷ []) ≡ Now →
        AnswersAgree C most (p ++ x ∷ []) b c → b h.w.number ≡ c h.w.number
    agree_for b c same agree =
        go (of_owner (AgreeAt Now b c) (R a) p h.w (rw h.current h.owner) front)
      where
        front : Each (λ e. AgreeAt Now b c e.subject) (events (R a) p)
        front =
            let more = more_events a p x in
            (each_parts (λ e. AgreeAt Now b c e.subject) (events (R a) p) more.0
            (subst (λ (es : List Event). Each (λ e. AgreeAt Now b c e.subject) es) more.1
            (subst (λ (z : List Event). Each (λ e. AgreeAt z b c e.subject) z) same agree))).0

        go : AgreeAt Now b c h.w → b h.w.number ≡ c h.w.number
        go (inl k) = k
        go (inr k) = absurd (let no : Some h.n ≡ None = sym noted_now ∙ k in cc)

    -- if the answer for this message is another one, nothing is different before the octet
    abbrev put : (answer : Answer) → Answers
    put answer i = if i == h.w.number then answer else a i

    agree_put : (answer : Answer) → AnswersAgree C most p a (put answer)
    agree_put answer =
        each_weaker (λ e. header_of_number (messages (cut p)) e.subject.number
        ≡ Some e.subject.header)
        (λ e. AgreeAt (events (R a) p) a (put answer) e.subject)
        (λ e k. go e.subject k (e.subject.number == h.w.number) refl) (events (R a) p)
        (one_header (R a) p)
      where
        of_w : header_of_number (messages (cut p)) h.w.number ≡ Some h.w.header
        of_w = of_owner (λ w. header_of_number (messages (cut p)) w.number ≡ Some w.header) (R a) p
            h.w (rw h.current h.owner) (one_header (R a) p)

        noted : noted_in_kept h.w.header (kept_of h.w.number (events (R a) p)) ≡ None
        noted = ap (noted_in_kept h.w.header) (sym (kept_is (R a) p h.w.number h.kept h.known))
            ∙ h.before

        go : (v : MessageKey) → header_of_number (messages (cut p)) v.number ≡ Some v.header →
            (mine : Bool) → (v.number == h.w.number) ≡ mine
            → AgreeAt (events (R a) p) a (put answer) v
        go v k false is = inl (rw is refl)
        go v k true is =
            let number : h.w.number ≡ v.number = sym (eqb-true v.number h.w.number is) in
            let both : Some h.w.header ≡ Some v.header =
            sym of_w ∙ (ap (header_of_number (messages (cut p))) number ∙ k) in
            let header : h.w.header ≡ v.header = cc in
            inr ((λ j. noted_in_kept (sym header j) (kept_of (sym number j) (events (R a) p)))
            ∙ noted)

  -- if answers agree for each message whose header has ended, they agree at each header that ends
  pub at_headers : (a b : Answers) (p : List ℕ) → AnswersAgree C most p a b →
      AgreeAtHeaders C most p a b
  unfolding header_ends_from
  at_headers a b = by_growth (λ p. AnswersAgree C most p a b → AgreeAtHeaders C most p a b)
      (λ h. tt)
      (λ p x ih h. subst (Each (AnswersAlike a b))
      (sym (from_append (R a) p [] (x ∷ []) ∙ ap (λ (z : List HeaderEnd).
      header_ends_from (R a) [] p ++ z) (from_one (R a) p x)))
      (each_append (AnswersAlike a b) (header_ends_from (R a) [] p) (header_ends_at (R a) p x)
      (ih (agree_back p x a b h)) (here p x h (ends_case a p x))))
    where
      here : (p : List ℕ) (x : ℕ) → AnswersAgree C most (p ++ x ∷ []) a b → Here a p x →
          Each (AnswersAlike a b) (header_ends_at (R a) p x)
      here p x h (inl none) = rw none tt
      here p x h (inr (inl k)) = rw k.ends (agree_for a p x k a b refl h, tt)
      here p x h (inr (inr k)) = rw k.ends (tt, tt)

  -- answers that agree have the same events, and so agreement is transitive
  agree_both : (p : List ℕ) (a b c : Answers) → AnswersAgree C most p a b →
      AnswersAgree C most p b c → AnswersAgree C most p a c
  agree_both p a b c h k =
      let same = (alike C a b most p (at_headers a b p h)).events_same in
      go (events (R a) p) h
      (subst (λ (z : List Event). Each (λ e. AgreeAt z b c e.subject) z) (sym same) k)
    where
      Same : Answers → Answers → Event → Type 0
      Same f g e = AgreeAt (events (R a) p) f g e.subject

      one : (e : Event) → Same a b e → Same b c e → Same a c e
      one e (inl k) (inl l) = inl (k ∙ l)
      one e (inr k) l = inr k
      one e (inl k) (inr l) = inr l

      go : (es : List Event) → Each (Same a b) es → Each (Same b c) es → Each (Same a c) es
      go [] h k = tt
      go (e ∷ es) h k = (one e h.0 k.0, go es h.1 k.1)

  -- if answers agree, the same headers end in the next octet
  ends_agree : (p : List ℕ) (x : ℕ) (a b : Answers) → AnswersAgree C most p a b →
      header_ends_at (R a) p x ≡ header_ends_at (R b) p x
  ends_agree p x a b h = ends_at_alike C a b most p x (alike C a b most p (at_headers a b p h))

  -- ---- the answers

  module _ {St : Type 0} (answer : St → Answer) (notified : St → CallEvent → St) where
    abbrev GoesOn : (answers : Answers) (stream q : List ℕ) (st : St) → Type 0
    GoesOn a p q st = (b : Answers) × AnswersAgree C most p a b
        × AgreesAtEnds answer notified C st b (header_ends_from (R b) p q)

    pub goes_on : (q p : List ℕ) (a : Answers) (st : St) → GoesOn a p q st
    unfolding header_ends_from
    goes_on [] p a st = (a, agree_self p a, tt)
    goes_on (x ∷ q) p a st = elim (ends_case a p x) [
      | inl none ↦
          let more = goes_on q (p ++ x ∷ []) a st in
          let b = more.0 in
          let agree = agree_back p x a b more.1 in
          let ends : header_ends_at (R b) p x ≡ [] = sym (ends_agree p x a b agree) ∙ none in (
            b,
            agree,
            subst (λ (es : List HeaderEnd).
                AgreesAtEnds answer notified C st b (es ++ header_ends_from (R b) (p ++ x ∷ []) q))
                (sym ends) more.2,
          )
      | inr some ↦ elim some [
        | inl h ↦
            let e = Header_end h.w.number h.w.header h.n in
            let now = put a p x h (answer st) in
            let more = goes_on q (p ++ x ∷ []) now (after_event notified st (call_event C e)) in
            let b = more.0 in
            let agree = agree_both p a now b (agree_put a p x h (answer st))
            (agree_back p x now b more.1) in
            let ends : header_ends_at (R b) p x ≡ e ∷ [] =
            sym (ends_agree p x a b agree) ∙ h.ends in
            let here : b h.w.number ≡ answer st =
            sym (agree_for a p x h now b
            (sym (next_same C a now most p x (alike C a now most p
            (at_headers a now p (agree_put a p x h (answer st)))))) more.1)
            ∙ rw (eq-eqb h.w.number h.w.number refl) refl in (
              b,
              agree,
              subst (λ (es : List HeaderEnd).
                  AgreesAtEnds answer notified C st b
                  (es ++ header_ends_from (R b) (p ++ x ∷ []) q))
                  (sym ends) (here, more.2),
            )
        | inr h ↦
            let e = Exception_end h.number h.name in
            let more = goes_on q (p ++ x ∷ []) a (after_event notified st (call_event C e)) in
            let b = more.0 in
            let agree = agree_back p x a b more.1 in
            let ends : header_ends_at (R b) p x ≡ e ∷ [] =
            sym (ends_agree p x a b agree) ∙ h.ends in (
              b,
              agree,
              subst (λ (es : List HeaderEnd).
                  AgreesAtEnds answer notified C st b
                  (es ++ header_ends_from (R b) (p ++ x ∷ []) q))
                  (sym ends) (tt, more.2),
            )
      ]
    ]

-- an engine holds a stream by all answers that agree
pub held_agree : (e : EngineView) (a b : Answers) (p : List ℕ) → AnswersAgree e.table e.most p a b →
    HoldsBy e a p → HoldsBy e b p
held_agree e a b p h = held_alike e a b p (at_headers e.table e.most a b p h)
