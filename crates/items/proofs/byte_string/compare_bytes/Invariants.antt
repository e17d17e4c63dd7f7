use Rattle.std.proofs.Common.{◌≡◌, length, nat_cmp}
use Rattle.items.specs.Orders.{order_bytes}
use Rattle.items.proofs.byte_string.compare_bytes.Given as goal

-- the bytes so far are the same, so what is left decides
abbrev pub invariant-loop-x : goal.invariant-loop-x
invariant-loop-x l = record {
  bytes : order_bytes l.x-iterator.a.rest.now l.x-iterator.b.rest.now ≡ order_bytes l.a l.b;
  lengths : nat_cmp (length l.x-iterator.a.rest.now) (length l.x-iterator.b.rest.now) ≡ nat_cmp (length l.a) (length l.b);
}
