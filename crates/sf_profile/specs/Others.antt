-- Calls of machines that have none of the five sets.
use Rattle.std.specs.Prelude.{ℕ, List, [], ◌∷◌, codes}

-- The names of calls in src/syscalls.csv of libseccomp 2.6.0 (Linux 6.13) that only m68k, mips, ppc, riscv64 and s390
-- have: no set of policies/names.toml has them.
abbrev pub other_names : List (List ℕ)
other_names =
    codes "atomic_barrier" ∷ codes "atomic_cmpxchg_32" ∷ codes "cachectl" ∷ codes "getpagesize"
    ∷ codes "multiplexer" ∷ codes "riscv_flush_icache" ∷ codes "riscv_hwprobe" ∷ codes "rtas"
    ∷ codes "s390_guarded_storage" ∷ codes "s390_pci_mmio_read" ∷ codes "s390_pci_mmio_write"
    ∷ codes "s390_runtime_instr" ∷ codes "s390_sthyi" ∷ codes "spu_create" ∷ codes "spu_run"
    ∷ codes "subpage_prot" ∷ codes "swapcontext" ∷ codes "switch_endian" ∷ codes "sys_debug_setcontext"
    ∷ codes "syscall" ∷ codes "sysmips" ∷ codes "timerfd" ∷ []
