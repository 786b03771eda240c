-- Where an aligned value begins (CDR Transfer Syntax, Alignment; meaning). Offsets count from the
-- first octet of the message.
use Rattle.std.specs.Prelude.{◌≡◌, ℕ, ◌+◌, ◌-◌, ◌%◌, ◌≤◌, ◌⊎◌}

-- a primitive is aligned to its own size
abbrev pub IsAlignment : (size : ℕ) → Type 0
IsAlignment size = (size ≡ 1) ⊎ (size ≡ 2) ⊎ (size ≡ 4) ⊎ (size ≡ 8)

-- padding is the least number of octets after which the offset is a multiple of the size
pub record IsPadding (offset alignment padding_count : ℕ) : Type 0 where
  pub aligned : (offset + padding_count) % alignment ≡ 0
  pub least : (k : ℕ) → (offset + k) % alignment ≡ 0 → padding_count ≤ k

-- the number of octets of padding, as it is computed; the contract of `pad` says that it is the
-- least one
unfoldable pub padding : (offset alignment : ℕ) → ℕ
padding offset size = (size - offset % size) % size
