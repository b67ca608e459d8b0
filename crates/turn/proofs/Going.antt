-- What is done for slot after slot: what is printed so far, and what the slots that are left still do. A round goes through the ten slots,
-- a share through the turns of one.
use Prim.Native.Nat.{ℕ, ◌+◌, ◌-◌, ◌*◌, ◌≤◌, ◌<◌}
use mathlib.Core.Path.{◌≡◌, refl, sym, ap, subst⁻¹, ◌∙◌}
use mathlib.Core.List.{List, [], ◌∷◌, ◌++◌, append_assoc, append-nil}
use native.Mathlib.Nat.{add-mul, mul-le-mul_right, zero-add}
use native.Mathlib.Numerals.{add-one}
use native.Mathlib.Omega.{arith}
use borrow.Rule.Slice.PartMut.{Post-is, put_mid}
use lib.ListN.{length, drop, get_or, take, drop_of_length-le, length-append, length-drop}
use lib.Seq.{drop-cons, drop-drop, paste-zero, take_all}
use Rattle.buffer.specs.Buffer.{overwrite}
use Rattle.buffer.proofs.Buffer.{overwrite-joined, overwrite-length}
use Rattle.machine.specs.Area.{AreBytes, Whole, kernel_bytes, kernel_of}
use Rattle.machine.specs.Operations.{in_order}
use Rattle.machine.specs.Refusals.{Passes}
use Rattle.machine.specs.Turn.{Turned}
use Rattle.machine.specs.declared.Kernel.{Kernel}
use Rattle.machine.proofs.Bytes.Area.{kernel-encode-decode}
use Rattle.machine.proofs.Changes.Change.{GoodState}
use Rattle.machine.proofs.Demands.GoodCalls.{KeepsGood, good-back, good-passes, passes-good}
use Rattle.machine.proofs.Demands.Lengths.{KeepsLength, PrintsAtMost}
use Rattle.turn.specs.Turns.{TurnLeft, turn_left, turn_left_by}
use Rattle.turn.proofs.Passing.{area-size}

-- a text printed before
abbrev pub joined : List ℕ → Turned → Turned
joined text t = record { kernel = t.kernel; disc = t.disc; out = text ++ t.out }

-- what is done for one slot keeps good buffers good and the disc's length, and prints at most n bytes
pub record Steady (each : Kernel → ℕ → ℕ → List ℕ → Turned) (n : ℕ) : Type 0 where
  pub good : KeepsGood each
  pub short : PrintsAtMost n each
  pub same : KeepsLength each

-- i of the slots l are passed
pub record Going (each : Kernel → ℕ → ℕ → List ℕ → Turned) (n : ℕ) (l : List ℕ) (k₀ : Kernel) (clock : ℕ) (disc₀ out₀ : List ℕ)
    (i printed : ℕ) (disc area out : List ℕ) : Type 0 where
  pub few : i ≤ length l
  pub passes : Passes disc area
  pub long : length disc ≡ length disc₀
  pub whole : Whole area
  pub text : List ℕ
  pub count : printed ≡ length text
  pub little : printed ≤ i * n
  pub room : length l * n ≤ length out₀
  pub written : out ≡ overwrite out₀ 0 text
  pub rest : in_order each l k₀ clock disc₀ ≡ joined text (in_order each (drop i l) (kernel_of area) clock disc)

-- bytes laid at the front of what lies behind a place
overwrite-behind : (l : List ℕ) (n : ℕ) (s : List ℕ) → take n l ++ overwrite (drop n l) 0 s ≡ overwrite l n s
overwrite-behind l n s =
    sym (append_assoc (take n l) s (drop (0 + length s) (drop n l)))
    ∙ ap (λ (r : List ℕ). take n l ++ s ++ r) (drop-drop (0 + length s) n l ∙ ap (λ (m : ℕ). drop (n + m) l) (zero-add (length s)))

slots-from : (l : List ℕ) (i slot : ℕ) → i < length l → get_or l i 0 ≡ slot → drop i l ≡ slot ∷ drop (i + 1) l
slots-from l i slot h e = drop-cons l i 0 h ∙ (λ t. e t ∷ drop (sym (add-one i) t) l)

-- ---- from the first slot on
pub going-first : (each : Kernel → ℕ → ℕ → List ℕ → Turned) (n : ℕ) (l : List ℕ) (clock : ℕ) (disc area out : List ℕ) → Passes disc area
    → AreBytes area
    → length l * n ≤ length out
    → Going each n l (kernel_of area) clock disc out 0 0 disc area out
going-first each n l clock disc area out passes bytes room =
    record {
      few = omega arith;
      passes = passes;
      long = refl;
      whole = kernel-encode-decode area bytes (area-size passes);
      text = [];
      count = refl;
      little = omega arith;
      room = room;
      written = sym (paste-zero out 0 []);
      rest = refl;
    }

module _ {each : Kernel → ℕ → ℕ → List ℕ → Turned} {n : ℕ} {l : List ℕ} {k₀ : Kernel} {clock : ℕ} {disc₀ out₀ : List ℕ} {i printed : ℕ}
    {disc area out : List ℕ} (g : Going each n l k₀ clock disc₀ out₀ i printed disc area out) where
  pub printed-few : i * n ≤ length l * n
  printed-few = mul-le-mul_right n g.few

  pub out-size : length out ≡ length out₀
  out-size = ap length g.written
      ∙ overwrite-length out₀ g.text 0 (omega (arith, g.count, g.little, g.room, printed-few))

  -- the output has room for the next slot
  pub out-room : i < length l → printed + n ≤ length out
  out-room low =
      let next : (i + 1) * n ≤ length l * n = mul-le-mul_right n (omega arith) in
      omega (arith, add-mul i 1 n, g.little, g.room, out-size)

  module _ (steady : Steady each n) (slot : ℕ) (low : i < length l) (here : get_or l i 0 ≡ slot) where
    abbrev k : Kernel
    k = kernel_of area

    abbrev t : Turned
    t = each k slot clock disc

    good : GoodState k disc
    good = passes-good disc area g.passes

    after-good : GoodState t.kernel t.disc
    after-good = steady.good k slot clock disc good

    next-rest : (disc' area' : List ℕ) → disc' ≡ t.disc → kernel_of area' ≡ t.kernel
        → in_order each (drop i l) k clock disc ≡ joined t.out (in_order each (drop (i + 1) l) (kernel_of area') clock disc')
    unfolding in_order
    next-rest disc' area' d j =
        ap (λ (m : List ℕ). in_order each m k clock disc) (slots-from l i slot low here)
        ∙ (λ z. joined t.out (in_order each (drop (i + 1) l) (sym j z) clock (sym d z)))

    pub next-short : (m : ℕ) (disc' area' part lent : List ℕ) → turn_left m disc' area' part ≡ turn_left_by t lent → m ≤ n
    next-short m disc' area' part lent left =
        let size : m ≡ length t.out = ap (λ (x : TurnLeft). x.count) left in
        omega (arith, steady.short k slot clock disc good)

    -- what is printed for this slot goes into the rest of the output
    pub going_next : (m : ℕ) (disc' area' part lent out' : List ℕ) → turn_left m disc' area' part ≡ turn_left_by t lent
        → lent ≡ drop printed out → out' ≡ take printed out ++ part
        → Going each n l k₀ clock disc₀ out₀ (i + 1) (printed + m) disc' area' out'
    going_next m disc' area' part lent out' left behind joins =
        let size : m ≡ length t.out = ap (λ (x : TurnLeft). x.count) left in
        let after : area' ≡ kernel_bytes t.kernel = ap (λ (x : TurnLeft). x.area) left in
        let same : disc' ≡ t.disc = ap (λ (x : TurnLeft). x.disc) left in
        let back : kernel_of area' ≡ t.kernel = ap kernel_of after ∙ good-back t.kernel t.disc after-good in
        let rest : Turned = in_order each (drop (i + 1) l) (kernel_of area') clock disc' in
        record {
          few = omega arith;
          passes = subst⁻¹ (λ (x : TurnLeft). Passes x.disc x.area) left (good-passes t.kernel t.disc after-good);
          long = ap length same ∙ steady.same k slot clock disc good ∙ g.long;
          whole = ap kernel_bytes back ∙ sym after;
          text = g.text ++ t.out;
          count = (λ z. g.count z + size z) ∙ sym (length-append g.text t.out);
          little = omega (arith, add-mul i 1 n, g.little, next-short m disc' area' part lent left);
          room = g.room;
          written = joins ∙ ap (λ (x : List ℕ). take printed out ++ x)
              (ap (λ (x : TurnLeft). x.out) left ∙ ap (λ (x : List ℕ). overwrite x 0 t.out) behind)
              ∙ overwrite-behind out printed t.out ∙ ap (λ (x : List ℕ). overwrite x printed t.out) g.written
              ∙ overwrite-joined out₀ g.text t.out 0 printed (omega (arith, g.count))
              (omega (arith, g.little, g.room, printed-few));
          rest = g.rest ∙ ap (joined g.text) (next-rest disc' area' same back)
              ∙ (λ z. record {
                kernel = rest.kernel;
                disc = rest.disc;
                out = sym (append_assoc g.text t.out rest.out) z;
              });
        }

    -- the same, of the rest of the output as it is lent and written back
    pub going_on : (m : ℕ) (disc' area' part : List ℕ)
        → turn_left m disc' area' part ≡ turn_left_by t (take (length out - printed) (drop printed out))
        → Going each n l k₀ clock disc₀ out₀ (i + 1) (printed + m) disc' area' (put_mid printed (length out - printed) out part)
    going_on m disc' area' part left =
        let room = out-room low in
        going_next m disc' area' part _ _ left (take_all (length out - printed) (drop printed out) (simp length-drop (omega arith)))
        (ap (λ (r : List ℕ). take printed out ++ (part ++ r))
        (Post-is printed (length out) out (omega arith) ∙ drop_of_length-le out {i = length out} (omega arith))
        ∙ ap (λ (r : List ℕ). take printed out ++ r) (append-nil part))

  -- ---- behind the last slot
  pub going-all : length l ≤ i → turn_left printed disc area out ≡ turn_left_by (in_order each l k₀ clock disc₀) out₀
  unfolding in_order
  going-all end =
      let u : in_order each l k₀ clock disc₀ ≡ record { kernel = kernel_of area; disc = disc; out = g.text } =
      g.rest ∙ ap (λ (m : List ℕ). joined g.text (in_order each m (kernel_of area) clock disc)) (drop_of_length-le l {i = i} end)
      ∙ (λ z. record { kernel = kernel_of area; disc = disc; out = append-nil g.text z }) in
      (λ z. turn_left (g.count z) disc (sym g.whole z) (g.written z)) ∙ ap (λ (t : Turned). turn_left_by t out₀) (sym u)
