-- A flow keeps what taking a payload, closing and a FIN keep, whatever comes.
use Rattle.tcp_waiting.specs.Numbers.{age}
use Rattle.tcp_waiting.specs.Payload.{Payload, holds_beyond_window, holds_as_long}
use Rattle.std.proofs.Common.{arith, ◌≡◌, ℕ, zero, suc, Bool, true, false, cond, Option, Some, None, is_some, refl, true≢false, ◌+◌, nat_eq, ◌&&◌, ◌||◌, length}
use Rattle.std.proofs.lemmas.Bool.{cases_Bool}
use Rattle.std.specs.List.{remove}
use Rattle.tcp_flow.specs.declared.hearing.Heard.{Heard}
use Rattle.tcp_flow.specs.declared.flow.CloseCause.{CloseCause}
use Rattle.tcp_flow.specs.declared.flow.CloseCause.TheVariants.{Gap}
use Rattle.tcp_flow.specs.Flow.{Flow, Reader, taken, oldest_held, is_due, at, drained_at_most, drained_due, closed, without_stale_fin, closed_at_fin, gone_on_with_held, lives, awaiting_stream, closed_for_gap, octets_passed_over, with_gap, within_window, is_lost, heard, without_old_octets, with_held, payload_came, fin_came}

pub record StepsKeep (reader : Reader) (Property : Flow → Type 0) : Type 0 where
  pub takes : (f : Flow) (i : ℕ) → oldest_held f ≡ Some i → is_due f i ≡ true → Property f →
      Property (taken reader (record f { held = remove f.held i }) (at f i))
  pub closes : (f : Flow) (cause : CloseCause) → Property f → Property (closed f cause)
  pub waits : (f : Flow) (count : ℕ) → lives f.live f.waits ≡ true → Property f →
      Property (awaiting_stream f count)
  pub fins : (f : Flow) (n : Option ℕ) → Property f → Property (record f { fin = n })

pub flowing_by : (F : Reader) (P : Flow → Type 0) → StepsKeep F P → (count : ℕ) (f : Flow) → P f →
    P (drained_at_most F count f)
unfolding drained_at_most
flowing_by F P k zero f p = p
flowing_by F P k (suc count) f p =
    elim (oldest_held f) as (λ (r : Option ℕ). oldest_held f ≡ r → P (elim r [
      | None ↦ f
      | Some i ↦ elim (is_due f i) [
        | true ↦ drained_at_most F count
            (taken F (record f { held = remove f.held i }) (at f i))
        | false ↦ f
      ]
    ])) [
      | None ↦ (λ e. p)
      | Some i ↦
          (λ e.
          elim (is_due f i) as (λ (b : Bool). is_due f i ≡ b →
          P (elim b [
            | true ↦ drained_at_most F count
                (taken F (record f { held = remove f.held i }) (at f i))
            | false ↦ f
          ])) [
            | true ↦ (λ d. flowing_by F P k count
                (taken F (record f { held = remove f.held i }) (at f i)) (k.takes f i e d p))
            | false ↦ (λ d. p)
          ] refl)
    ] refl

pub drained_keeps : (F : Reader) (P : Flow → Type 0) → StepsKeep F P → (f : Flow) → P f →
    P (drained_due F f)
unfolding drained_due
drained_keeps F P k f p = search (arith, flowing_by)

pub by_case : {X : Type 0} (P : X → Type 0) (b : Bool) (x y : X) → (b ≡ true → P x) →
    (b ≡ false → P y) → P (cond b x y)
by_case P true x y p q = p refl
by_case P false x y p q = q refl

pub either : {X : Type 0} (P : X → Type 0) (b : Bool) (x y : X) → P x → P y → P (cond b x y)
either P true x y p q = p
either P false x y p q = q

pub rest_keeps : (F : Reader) (P : Flow → Type 0) → StepsKeep F P → (d : Flow) → P d →
    P (without_stale_fin (closed_at_fin F d))
unfolding closed_at_fin without_stale_fin
rest_keeps F P k d q = search (arith, either, is_some, drained_keeps)

pub gone_on_keeps : (F : Reader) (P : Flow → Type 0) → StepsKeep F P → (f : Flow) → P f →
    P (gone_on_with_held F f)
unfolding gone_on_with_held
gone_on_keeps F P k f p = search (arith, rest_keeps, drained_keeps)

-- octets are passed over only if a stream is live
pub passing_lives : (F : Reader) (f : Flow) (count : ℕ) → octets_passed_over F f ≡ Some count →
    lives f.live f.waits ≡ true
unfolding octets_passed_over
passing_lives F f count e = search (arith, cases_Bool, true≢false, is_some)

parted_keeps : (F : Reader) (P : Flow → Type 0) → StepsKeep F P → (f : Flow) (o : Option ℕ) →
    octets_passed_over F f ≡ o → P f → P (closed_for_gap f o)
unfolding closed_for_gap
parted_keeps F P k f None e p = k.closes f Gap p
parted_keeps F P k f (Some count) e p = search (arith, passing_lives)

pub gap_keeps : (F : Reader) (P : Flow → Type 0) → StepsKeep F P → (f : Flow) → P f →
    P (with_gap F f)
unfolding with_gap
gap_keeps F P k f p = search (arith, gone_on_keeps, parted_keeps)

pub window_keeps : (F : Reader) (P : Flow → Type 0) → StepsKeep F P →
    (count : ℕ) (f : Flow) → P f → P (within_window F count f)
unfolding within_window
window_keeps F P k zero f p = p
window_keeps F P k (suc count) f p =
    elim (holds_beyond_window f.id f.next f.held) as (λ (b : Bool).
    P (elim b [ true ↦ within_window F count (with_gap F f) | false ↦ f ])) [
      | true ↦ window_keeps F P k count (with_gap F f) (gap_keeps F P k f p)
      | false ↦ p
    ]

pub heard_keeps : (F : Reader) (P : Flow → Type 0) → StepsKeep F P →
    (count : ℕ) (h : Heard) (f : Flow)
    → P f → P (heard F count h f)
unfolding heard
heard_keeps F P k zero h f p = p
heard_keeps F P k (suc count) h f p =
    elim (is_lost h f) as
    (λ (b : Bool). P (elim b [ true ↦ heard F count h (with_gap F f) | false ↦ f ])) [
      | true ↦ heard_keeps F P k count h (with_gap F f) (gap_keeps F P k f p)
      | false ↦ p
    ]

-- if the flow keeps it too when it holds the payload that comes
pub came_keeps : (F : Reader) (P : Flow → Type 0) → StepsKeep F P → (f : Flow) (p : Payload) → P f →
    P (with_held f (without_old_octets f.next (is_some f.live) p)) → P (payload_came F f p)
unfolding payload_came
came_keeps F P k f p was held =
    let q : Payload = without_old_octets f.next (is_some f.live) p in
    let g : Flow = gone_on_with_held F (with_held f q) in
    either P (nat_eq (length q.octets) 0 || holds_as_long f.id q.number (length q.octets) f.held) f
    (within_window F (length f.held + 1) g) was
    (window_keeps F P k (length f.held + 1) g (gone_on_keeps F P k (with_held f q) held))

pub fin_keeps : (F : Reader) (P : Flow → Type 0) → StepsKeep F P → (f : Flow) (n : ℕ) → P f →
    P (fin_came F f n)
unfolding fin_came
fin_keeps F P k f n was =
    let g : Flow = record f { fin = Some n } in
    either P (is_some f.live && nat_eq (age f.next n) 0) (gone_on_with_held F g) f
    (gone_on_keeps F P k g (k.fins f (Some n) was)) was
