-- Why a record cannot be written.
use Rattle.std.specs.Prelude.{◌≡◌, ℕ, ◌<◌, ◌≤◌, ◌⊎◌, List, length}
use Rattle.reading.specs.declared.writing.WriteFault.{WriteFault}
use Rattle.reading.specs.declared.writing.WriteFault.TheVariants.{Issuer, Length, Memory}

-- a record may have this issuer and a body of n bytes
abbrev pub Writable : ℕ → ℕ → Type 0
Writable issuer n = (issuer ≤ 63) × (1 ≤ n) × (n ≤ 64)

-- the issuer is judged first
abbrev pub Unfit : ℕ → ℕ → WriteFault → Type 0
Unfit issuer n Issuer = 63 < issuer
Unfit issuer n Length = (issuer ≤ 63) × ((n ≡ 0) ⊎ (64 < n))
Unfit issuer n Memory = ⊥

-- want of memory is told only of a record that could be written
abbrev pub Unwritable : ℕ → List ℕ → WriteFault → Type 0
Unwritable issuer body Issuer = Unfit issuer (length body) Issuer
Unwritable issuer body Length = Unfit issuer (length body) Length
Unwritable issuer body Memory = Writable issuer (length body)
