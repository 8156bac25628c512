-- What is read from bytes at a place: a value and the place behind it; or the bytes are bad.
use Rattle.std.specs.Prelude.{Bool, ℕ}
use Rattle.laws.specs.Bool.{when◌then◌else◌}

pub data Read (A : Type 0) : Type 0 where
  got : A → (next : ℕ) → Read A
  bad : Read A

-- One read behind another.
unfoldable pub onward : {A B : Type 0} → Read A → (A → (next : ℕ) → Read B) → Read B
onward (got x next) more = more x next
onward bad more = bad

-- What is read must pass a test.
unfoldable pub tested : {A : Type 0} → (A → Bool) → Read A → Read A
tested fits read = onward read (λ x next. when fits x then got x next else bad)
