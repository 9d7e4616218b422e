-- Numbers and their bytes.
use Rattle.std.proofs.Common.{◌/◌, ◌%◌, ◌≡◌, ℕ, zero, suc, ◌+◌, ◌*◌, ◌^◌, ◌<◌, ◌≤◌, List, [], ◌∷◌, ◌++◌, length, take, get_or, refl, sym, ap, ◌∙◌, arith}
use Rattle.std.proofs.Math.Nat.{div-div-eq-div-mul, div-one, mod-lt, pow-succ'}
use Rattle.std.specs.Int.{byte_at, bytes_low_first}
use Rattle.byteorder.specs.Endian.{little_from}
use Rattle.byteorder.specs.Numbers.{little_from-append, little_from-cons, little_from-lt, little_number-reads_back, length-bytes_low_first}
use Rattle.file_format.specs.Number.{IsBytes, number_bytes, number_of}

-- a byte of a number, by its place
byte_at-pow : (k x : ℕ) → byte_at k x ≡ x / 256 ^ k % 256
byte_at-pow zero x = ap (λ (y : ℕ). y % 256) (sym (div-one x))
byte_at-pow (suc k) x = refl

-- a byte is below 256
byte_at-small : (k x : ℕ) → byte_at k x < 256
byte_at-small k x = rw (byte_at-pow k x) (mod-lt (x / 256 ^ k) (omega arith))

-- the bytes above the lowest are those of the number without its lowest byte
higher_bytes : (k j b y : ℕ) → b < 256 → bytes_low_first (suc j) k (b + 256 * y) ≡ bytes_low_first j k y
higher_bytes zero j b y small = refl
higher_bytes (suc k) j b y small =
    let below : (b + 256 * y) / 256 ≡ y = omega arith in
    let shift : (b + 256 * y) / 256 ^ suc j ≡ y / 256 ^ j =
    ap (λ (p : ℕ). (b + 256 * y) / p) (pow-succ' 256 j) ∙ sym (div-div-eq-div-mul (b + 256 * y) 256 (256 ^ j)) ∙ ap (λ (x : ℕ). x / 256 ^ j) below in
    let first : byte_at (suc j) (b + 256 * y) ≡ byte_at j y = byte_at-pow (suc j) (b + 256 * y) ∙ ap (λ (x : ℕ). x % 256) shift ∙ sym (byte_at-pow j y) in
    rw (first, higher_bytes k (suc j) b y small) refl

-- the number in the first bytes has these bytes
bytes_of_number : (k : ℕ) (bytes : List ℕ) → IsBytes bytes → k ≤ length bytes → bytes_low_first 0 k (little_from 0 k bytes) ≡ take k bytes
bytes_of_number zero bytes are_bytes long = refl
bytes_of_number (suc k) [] are_bytes long = absurd (omega arith)
bytes_of_number (suc k) (b ∷ rest) are_bytes long =
    let small : b < 256 = are_bytes 0 in
    let first : (b + 256 * little_from 0 k rest) % 256 ≡ b = omega arith in
    let later : bytes_low_first 0 k (little_from 0 k rest) ≡ take k rest = bytes_of_number k rest (λ i. are_bytes (suc i)) (omega arith) in
    rw (little_from-cons 0 k b rest, higher_bytes k 0 b (little_from 0 k rest) small, first, later) refl

-- the bytes of a number are bytes
pub number_is_bytes : (k j x i : ℕ) → get_or (bytes_low_first j k x) i 0 < 256
number_is_bytes zero j x i = omega arith
number_is_bytes (suc k) j x zero = byte_at-small j x
number_is_bytes (suc k) j x (suc i) = number_is_bytes k (suc j) x i

pub length-number_bytes : (width number : ℕ) → length (number_bytes width number) ≡ width
unfolding number_bytes
length-number_bytes width number = length-bytes_low_first 0 width number

-- a number is read back from its bytes, whatever follows
pub number_of-number_bytes : (width number : ℕ) (rest : List ℕ) → number < 256 ^ width → number_of width (number_bytes width number ++ rest) ≡ number
unfolding number_bytes number_of
number_of-number_bytes width number rest small = little_number-reads_back width number rest small

-- the bytes after those of a number don't affect the number
pub number_of-append : (width : ℕ) (bytes rest : List ℕ) → width ≤ length bytes → number_of width (bytes ++ rest) ≡ number_of width bytes
unfolding number_of
number_of-append width bytes rest long = little_from-append width bytes rest long

-- bytes are those of their number
pub number_bytes-number_of : (width : ℕ) (bytes : List ℕ) → IsBytes bytes → width ≤ length bytes → number_bytes width (number_of width bytes) ≡ take width bytes
unfolding number_bytes number_of
number_bytes-number_of width bytes are_bytes long = bytes_of_number width bytes are_bytes long

-- a number from this many bytes fits into them
pub number_of-below : (width : ℕ) (bytes : List ℕ) → IsBytes bytes → number_of width bytes < 256 ^ width
unfolding number_of
number_of-below width bytes are_bytes = little_from-lt 0 width bytes are_bytes

-- the statement of the law of numbers
pub ruleset number_laws = (number_of-number_bytes, number_bytes-number_of, number_of-append, number_of-below, length-number_bytes)
